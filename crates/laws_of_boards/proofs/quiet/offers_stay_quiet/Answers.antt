use Rattle.laws_of_boards.proofs.Stays.{offers-quiet}
use Rattle.laws_of_boards.proofs.quiet.offers_stay_quiet.Goals as goal

pub returns : goal.returns
returns c = offers-quiet
