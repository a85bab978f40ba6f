use Rattle.laws_of_hours.proofs.NextEvents.{empty}
use Rattle.laws_of_hours.proofs.next.hours_begin_empty.Goals as goal

pub returns : goal.returns
returns c = empty
