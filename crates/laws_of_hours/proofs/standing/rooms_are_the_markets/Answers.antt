use Rattle.laws_of_hours.proofs.Rooms.{rooms}
use Rattle.laws_of_hours.proofs.standing.rooms_are_the_markets.Goals as goal

pub returns : goal.returns
returns c = rooms
