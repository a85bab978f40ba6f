use Rattle.cut_proof.proofs.ReachLaws.{reach_from_start}
use Rattle.cut_proof.proofs.laws.reach_from_a_start_does_not_grow.Goals as goal

pub returns : goal.returns
returns c = reach_from_start
