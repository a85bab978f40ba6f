use Rattle.laws_of_hours.proofs.Noted.{gates}
use Rattle.laws_of_hours.proofs.changes.gates_stand.Goals as goal

pub returns : goal.returns
returns c = gates
