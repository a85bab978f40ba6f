use Rattle.laws_of_boards.proofs.Legs.{lower}
use Rattle.laws_of_boards.proofs.boards.legs_lower_the_hour.Goals as goal

pub returns : goal.returns
returns c = lower
