use Rattle.laws_of_boards.proofs.Stepping.{takings}
use Rattle.laws_of_boards.proofs.hours.takings_stay_hours.Goals as goal

pub returns : goal.returns
returns c = takings
