use Rattle.laws_of_boards.proofs.QuietHours.{hour-quiet}
use Rattle.laws_of_boards.proofs.quiet.takers_of_an_hour_leave_their_contract_quiet.Goals as goal

pub returns : goal.returns
returns c = hour-quiet
