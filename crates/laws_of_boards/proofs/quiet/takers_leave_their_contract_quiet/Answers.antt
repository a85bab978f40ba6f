use Rattle.laws_of_boards.proofs.Taking.{taker-quiet}
use Rattle.laws_of_boards.proofs.quiet.takers_leave_their_contract_quiet.Goals as goal

pub returns : goal.returns
returns c = taker-quiet
