use Rattle.laws_of_boards.proofs.Settling.{journals}
use Rattle.laws_of_boards.proofs.settled.settled_hours_are_quiet.Goals as goal

pub returns : goal.returns
returns c = journals
