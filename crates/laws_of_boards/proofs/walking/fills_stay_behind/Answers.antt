use Rattle.laws_of_boards.proofs.Filling.{stay_behind}
use Rattle.laws_of_boards.proofs.walking.fills_stay_behind.Goals as goal

pub returns : goal.returns
returns c = stay_behind
