use Rattle.desk_entering.proofs.RoomBounds.{rooms-fit}
use Rattle.desk_entering.proofs.laws.rooms_of_events_fit.Goals as goal

pub returns : goal.returns
returns c = rooms-fit
