use Rattle.laws_of_hours.proofs.NextEvents.{next}
use Rattle.laws_of_hours.proofs.next.next_events_fit.Goals as goal

pub returns : goal.returns
returns c = next
