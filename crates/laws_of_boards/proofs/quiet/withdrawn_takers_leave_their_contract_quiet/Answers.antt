use Rattle.laws_of_boards.proofs.Taking.{withdrawn-quiet}
use Rattle.laws_of_boards.proofs.quiet.withdrawn_takers_leave_their_contract_quiet.Goals as goal

pub returns : goal.returns
returns c = withdrawn-quiet
