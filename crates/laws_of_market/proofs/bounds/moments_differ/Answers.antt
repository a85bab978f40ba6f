use Rattle.laws_of_market.proofs.MomentsDiffer.{moments-differ}
use Rattle.laws_of_market.proofs.bounds.moments_differ.Goals as goal

pub returns : goal.returns
returns c = λ setup events one other history. moments-differ setup events history.fit one other
