use Rattle.laws_of_boards.proofs.Filling.{stay_in_line}
use Rattle.laws_of_boards.proofs.walking.fills_stay_in_their_line.Goals as goal

pub returns : goal.returns
returns c = stay_in_line
