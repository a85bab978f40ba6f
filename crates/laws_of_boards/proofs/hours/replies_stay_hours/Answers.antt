use Rattle.laws_of_boards.proofs.Stepping.{replies}
use Rattle.laws_of_boards.proofs.hours.replies_stay_hours.Goals as goal

pub returns : goal.returns
returns c = replies
