use Rattle.std.proofs.Common.{rules}
use Rattle.command_words.proofs.Counts.{begins-otherwise, just-so, too-great, unread}
use Rattle.command_words.proofs.words.count_of.Goals as goal

pub returns-then-not-begins_above_zero : goal.returns-then-not-begins_above_zero
returns-then-not-begins_above_zero c = search (rules, begins-otherwise)

pub returns-in_err-count : goal.returns-in_err-count
returns-in_err-count c = search (rules, unread)

pub returns-then-count-gt-MOST_COMMANDS : goal.returns-then-count-gt-MOST_COMMANDS
returns-then-count-gt-MOST_COMMANDS c = search (rules, too-great)

pub returns : goal.returns
returns c = search (rules, just-so)
