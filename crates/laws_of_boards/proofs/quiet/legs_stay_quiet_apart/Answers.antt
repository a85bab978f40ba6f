use Rattle.laws_of_boards.proofs.Stays.{apart-quiet}
use Rattle.laws_of_boards.proofs.quiet.legs_stay_quiet_apart.Goals as goal

pub returns : goal.returns
returns c = apart-quiet
