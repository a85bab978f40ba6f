use Rattle.laws_of_boards.proofs.Stays.{grants-quiet}
use Rattle.laws_of_boards.proofs.quiet.grants_stay_quiet.Goals as goal

pub returns : goal.returns
returns c = grants-quiet
