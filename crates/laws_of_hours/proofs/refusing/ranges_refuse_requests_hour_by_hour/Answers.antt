use Rattle.laws_of_hours.proofs.Refused.{requests_by_hour}
use Rattle.laws_of_hours.proofs.refusing.ranges_refuse_requests_hour_by_hour.Goals as goal

pub returns : goal.returns
returns c = requests_by_hour
