use Rattle.laws_of_hours.proofs.OtherEvents.{hours_have}
use Rattle.laws_of_hours.proofs.standing.hours_have_their_flows.Goals as goal

pub returns : goal.returns
returns c = hours_have
