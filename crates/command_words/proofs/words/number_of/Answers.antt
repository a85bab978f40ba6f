use Rattle.std.proofs.Common.{rules}
use Rattle.command_words.proofs.Counts.{numeral-is-text}
use Rattle.command_words.proofs.words.number_of.Goals as goal

-- digits are text
pub returns-in_err-ok-clause-none : goal.returns-in_err-ok-clause-none
returns-in_err-ok-clause-none c none digits = search (rules, numeral-is-text)
