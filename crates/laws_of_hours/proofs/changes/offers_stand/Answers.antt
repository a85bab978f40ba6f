use Rattle.laws_of_hours.proofs.Ranges.{offers}
use Rattle.laws_of_hours.proofs.changes.offers_stand.Goals as goal

pub returns : goal.returns
returns c = offers
