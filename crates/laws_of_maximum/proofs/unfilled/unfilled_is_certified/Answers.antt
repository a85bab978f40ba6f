use Rattle.laws_of_maximum.proofs.Certified.{unfilled_certified}
use Rattle.laws_of_maximum.proofs.unfilled.unfilled_is_certified.Goals as goal

pub returns : goal.returns
returns c = unfilled_certified
