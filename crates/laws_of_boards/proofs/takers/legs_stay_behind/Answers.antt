use Rattle.laws_of_boards.proofs.Behind.{stay}
use Rattle.laws_of_boards.proofs.takers.legs_stay_behind.Goals as goal

pub returns : goal.returns
returns c = stay
