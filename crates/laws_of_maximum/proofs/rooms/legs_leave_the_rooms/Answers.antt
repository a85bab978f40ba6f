use Rattle.laws_of_maximum.proofs.RoomsTaken.{legs_leave}
use Rattle.laws_of_maximum.proofs.rooms.legs_leave_the_rooms.Goals as goal

pub returns : goal.returns
returns c = legs_leave
