use Rattle.laws_of_hours.proofs.Ranges.{resumptions}
use Rattle.laws_of_hours.proofs.changes.resumptions_stand.Goals as goal

pub returns : goal.returns
returns c = resumptions
