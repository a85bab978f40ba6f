use Rattle.laws_of_boards.proofs.Worse.{in_front}
use Rattle.laws_of_boards.proofs.fronts.partners_stand_in_front.Goals as goal

pub returns : goal.returns
returns c = in_front
