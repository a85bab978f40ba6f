use Rattle.laws_of_hours.proofs.FlowChanges.{leaves_books}
use Rattle.laws_of_hours.proofs.flows.flow_events_leave_the_books.Goals as goal

pub returns : goal.returns
returns c = leaves_books
