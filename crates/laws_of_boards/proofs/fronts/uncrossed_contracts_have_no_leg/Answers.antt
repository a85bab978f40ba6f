use Rattle.laws_of_boards.proofs.Worse.{uncrossed}
use Rattle.laws_of_boards.proofs.fronts.uncrossed_contracts_have_no_leg.Goals as goal

pub returns : goal.returns
returns c = uncrossed
