use Rattle.laws_of_boards.proofs.Stays.{elsewhere-quiet}
use Rattle.laws_of_boards.proofs.quiet.other_hours_stay_quiet.Goals as goal

pub returns : goal.returns
returns c = elsewhere-quiet
