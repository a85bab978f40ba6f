use Rattle.laws_of_hours.proofs.Ranges.{grants}
use Rattle.laws_of_hours.proofs.changes.grants_stand.Goals as goal

pub returns : goal.returns
returns c = grants
