use Rattle.cut_proof.proofs.ReachLaws.{reach_to_end}
use Rattle.cut_proof.proofs.laws.reach_to_an_end_does_not_grow.Goals as goal

pub returns : goal.returns
returns c = reach_to_end
