use Rattle.laws_of_hours.proofs.Ranges.{halts}
use Rattle.laws_of_hours.proofs.changes.halts_stand.Goals as goal

pub returns : goal.returns
returns c = halts
