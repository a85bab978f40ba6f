use Rattle.laws_of_boards.proofs.Stays.{resumptions-quiet}
use Rattle.laws_of_boards.proofs.quiet.resumptions_stay_quiet.Goals as goal

pub returns : goal.returns
returns c = resumptions-quiet
