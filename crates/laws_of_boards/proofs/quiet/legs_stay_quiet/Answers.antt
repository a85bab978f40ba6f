use Rattle.laws_of_boards.proofs.Stays.{legs-quiet}
use Rattle.laws_of_boards.proofs.quiet.legs_stay_quiet.Goals as goal

pub returns : goal.returns
returns c = legs-quiet
