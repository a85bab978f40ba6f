use Rattle.laws_of_boards.proofs.Stepping.{entries}
use Rattle.laws_of_boards.proofs.hours.entries_stay_hours.Goals as goal

pub returns : goal.returns
returns c = entries
