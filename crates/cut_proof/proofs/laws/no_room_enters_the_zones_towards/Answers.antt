use Rattle.cut_proof.proofs.ReachLaws.{no_room_enters}
use Rattle.cut_proof.proofs.laws.no_room_enters_the_zones_towards.Goals as goal

pub returns : goal.returns
returns c = no_room_enters
