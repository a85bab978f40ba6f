use Rattle.laws_of_market.proofs.OfHours.{one_answers}
use Rattle.laws_of_market.proofs.hour_lists.one_hour_answers_alone.Goals as goal

pub returns : goal.returns
returns c = one_answers
