use Rattle.desk_entering.proofs.Entries.{entries-leave}
use Rattle.desk_entering.proofs.laws.entries_leave_the_bound.Goals as goal

pub returns : goal.returns
returns c = entries-leave
