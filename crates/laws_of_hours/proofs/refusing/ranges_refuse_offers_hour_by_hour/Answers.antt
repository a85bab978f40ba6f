use Rattle.laws_of_hours.proofs.Refused.{offers_by_hour}
use Rattle.laws_of_hours.proofs.refusing.ranges_refuse_offers_hour_by_hour.Goals as goal

pub returns : goal.returns
returns c = offers_by_hour
