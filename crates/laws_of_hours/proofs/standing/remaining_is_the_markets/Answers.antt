use Rattle.laws_of_hours.proofs.Rooms.{remains}
use Rattle.laws_of_hours.proofs.standing.remaining_is_the_markets.Goals as goal

pub returns : goal.returns
returns c = remains
