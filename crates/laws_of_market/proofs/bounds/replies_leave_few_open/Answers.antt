use Rattle.laws_of_market.proofs.HoursAlone.{few-reply}
use Rattle.laws_of_market.proofs.bounds.replies_leave_few_open.Goals as goal

pub returns : goal.returns
returns c = λ setup parts events caller given is_setup history few. few-reply setup is_setup parts events caller given history few
