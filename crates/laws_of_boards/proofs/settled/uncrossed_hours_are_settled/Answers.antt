use Rattle.laws_of_boards.proofs.Settling.{uncrossed}
use Rattle.laws_of_boards.proofs.settled.uncrossed_hours_are_settled.Goals as goal

pub returns : goal.returns
returns c = uncrossed
