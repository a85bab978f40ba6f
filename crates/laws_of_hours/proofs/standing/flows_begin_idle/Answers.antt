use Rattle.laws_of_hours.proofs.Ranges.{idle}
use Rattle.laws_of_hours.proofs.standing.flows_begin_idle.Goals as goal

pub returns : goal.returns
returns c = idle
