use Rattle.hour_store.proofs.ChangesLeave.{lines-change}
use Rattle.hour_store.proofs.changed.lines_change_in_their_zones.Goals as goal

pub returns : goal.returns
returns c = lines-change
