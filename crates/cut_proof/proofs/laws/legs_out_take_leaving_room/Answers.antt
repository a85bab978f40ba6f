use Rattle.cut_proof.proofs.Crossing.{legs_out}
use Rattle.cut_proof.proofs.laws.legs_out_take_leaving_room.Goals as goal

pub returns : goal.returns
returns c = legs_out
