use Rattle.laws_of_hours.proofs.Refused.{requests_alike}
use Rattle.laws_of_hours.proofs.refusing.one_hour_refuses_requests_alike.Goals as goal

pub returns : goal.returns
returns c = requests_alike
