use Rattle.laws_of_boards.proofs.Stays.{unopened-quiet}
use Rattle.laws_of_boards.proofs.quiet.unopened_contracts_stay_quiet.Goals as goal

pub returns : goal.returns
returns c = unopened-quiet
