use Rattle.laws_of_maximum.proofs.RoomsTaken.{takings_open}
use Rattle.laws_of_maximum.proofs.rooms.takings_open_no_way.Goals as goal

pub returns : goal.returns
returns c = takings_open
