use Rattle.laws_of_boards.proofs.Stepping.{withdrawn}
use Rattle.laws_of_boards.proofs.hours.withdrawals_stay_hours.Goals as goal

pub returns : goal.returns
returns c = withdrawn
