use Rattle.laws_of_boards.proofs.PassedOver.{pass_for_good}
use Rattle.laws_of_boards.proofs.walking.takers_pass_for_good.Goals as goal

pub returns : goal.returns
returns c = pass_for_good
