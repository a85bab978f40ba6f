use Rattle.laws_of_market.proofs.HoursAlone.{few-open}
use Rattle.laws_of_market.proofs.bounds.few_are_open.Goals as goal

pub returns : goal.returns
returns c = λ setup parts turns hour is_setup. few-open setup is_setup parts turns hour
