use Rattle.laws_of_boards.proofs.Stays.{roomy-quiet}
use Rattle.laws_of_boards.proofs.quiet.events_stay_quiet_where_there_was_room.Goals as goal

pub returns : goal.returns
returns c = roomy-quiet
