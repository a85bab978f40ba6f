use Rattle.laws_of_market.proofs.OfHours.{answer_alone}
use Rattle.laws_of_market.proofs.hour_lists.hours_answer_alone.Goals as goal

pub returns : goal.returns
returns c = answer_alone
