use Rattle.cut_proof.proofs.Crossing.{legs_in}
use Rattle.cut_proof.proofs.laws.legs_in_take_entering_room.Goals as goal

pub returns : goal.returns
returns c = legs_in
