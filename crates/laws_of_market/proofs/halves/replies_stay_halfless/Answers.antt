use Rattle.laws_of_market.proofs.Halfless.{reply-halfless}
use Rattle.laws_of_market.proofs.halves.replies_stay_halfless.Goals as goal

pub returns : goal.returns
returns c = λ setup parts events caller given none. reply-halfless parts setup events caller given none
