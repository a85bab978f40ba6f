use Rattle.laws_of_boards.proofs.Stepping.{sweeps}
use Rattle.laws_of_boards.proofs.hours.sweeps_stay_hours.Goals as goal

pub returns : goal.returns
returns c = sweeps
