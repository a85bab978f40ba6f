use Rattle.laws_of_hours.proofs.Noted.{legs}
use Rattle.laws_of_hours.proofs.changes.legs_stand.Goals as goal

pub returns : goal.returns
returns c = legs
