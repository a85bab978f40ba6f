use Rattle.sweep_core.proofs.FreeZones.{none-marked}
use Rattle.sweep_core.proofs.marks.no_marks.Goals as goal

pub returns : goal.returns
returns c = none-marked 64
