use Rattle.laws_of_hours.proofs.OtherEvents.{others}
use Rattle.laws_of_hours.proofs.changes.other_events_leave_the_flows.Goals as goal

pub returns : goal.returns
returns c = others
