use Rattle.laws_of_maximum.proofs.Certified.{basket_certified}
use Rattle.laws_of_maximum.proofs.unfilled.basket_unfilled_is_certified.Goals as goal

pub returns : goal.returns
returns c = basket_certified
