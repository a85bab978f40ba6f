use Rattle.cut_proof.proofs.ReachLaws.{no_room_leaves}
use Rattle.cut_proof.proofs.laws.no_room_leaves_the_zones_beyond.Goals as goal

pub returns : goal.returns
returns c = no_room_leaves
