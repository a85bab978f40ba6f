use Rattle.laws_of_boards.proofs.Unopened.{unopened}
use Rattle.laws_of_boards.proofs.fronts.unopened_contracts_have_no_leg.Goals as goal

pub returns : goal.returns
returns c = unopened
