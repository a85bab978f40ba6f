use Rattle.std.proofs.Common.{◌+◌, ◌-◌, ◌*◌, length}
use Rattle.session_trade.proofs.callers.+halves.Given as goal

abbrev pub decreases-work_of_all : goal.decreases-work_of_all
decreases-work_of_all g l = 4 * length l.commands.now

abbrev pub decreases-work_of_both : goal.decreases-work_of_both
decreases-work_of_both g l = 4 * (length l.first.now + length l.second.now) - 1

abbrev pub decreases-work_of_both-front : goal.decreases-work_of_both-front
decreases-work_of_both-front g l = 4 * length l.first.now + 1

abbrev pub decreases-work_of_both-back : goal.decreases-work_of_both-back
decreases-work_of_both-back g l = 4 * length l.second.now + 1
