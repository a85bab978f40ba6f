use Rattle.laws_of_hours.proofs.RequestRooms.{rooms_are}
use Rattle.laws_of_hours.proofs.refusing.quarter_rooms_are_the_markets.Goals as goal

pub returns : goal.returns
returns c = rooms_are
