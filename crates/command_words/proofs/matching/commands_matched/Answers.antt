use Rattle.std.proofs.Common.{◌∙◌, ap, codes, option_and_then, rules}
use Rattle.clap.specs.Words.{found_of}
use Rattle.clap.proofs.WalkLemmas.{first_value-rows}
use Rattle.command_words.specs.Words.{count_of}
use Rattle.command_words.proofs.matching.commands_matched.Goals as goal

-- the value that was found is that of the row
pub returns-in_err-get_str : goal.returns-in_err-get_str
returns-in_err-get_str c = search rules ∙ ap (option_and_then count_of) (c.get_str.ensures ∙ first_value-rows (found_of c.args.matches.now) (codes "N"))

pub returns : goal.returns
returns c = search rules ∙ ap (option_and_then count_of) (c.get_str.ensures ∙ first_value-rows (found_of c.args.matches.now) (codes "N"))
