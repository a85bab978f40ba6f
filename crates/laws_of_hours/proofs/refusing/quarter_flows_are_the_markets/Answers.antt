use Rattle.laws_of_hours.proofs.RequestRooms.{flows_are}
use Rattle.laws_of_hours.proofs.refusing.quarter_flows_are_the_markets.Goals as goal

pub returns : goal.returns
returns c = flows_are
