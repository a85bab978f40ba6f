use Rattle.laws_of_hours.proofs.Refused.{offers_alike}
use Rattle.laws_of_hours.proofs.refusing.one_hour_refuses_offers_alike.Goals as goal

pub returns : goal.returns
returns c = offers_alike
