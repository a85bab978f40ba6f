use Rattle.laws_of_maximum.proofs.RoomsTaken.{takings_leave}
use Rattle.laws_of_maximum.proofs.rooms.takings_leave_the_rooms.Goals as goal

pub returns : goal.returns
returns c = takings_leave
