use Rattle.cut_proof.proofs.Crossing.{inner_legs}
use Rattle.cut_proof.proofs.laws.inner_legs_keep_the_cut.Goals as goal

pub returns : goal.returns
returns c = inner_legs
