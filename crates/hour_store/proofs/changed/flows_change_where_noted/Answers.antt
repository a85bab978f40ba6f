use Rattle.hour_store.proofs.ChangesLeave.{flows-change}
use Rattle.hour_store.proofs.changed.flows_change_where_noted.Goals as goal

pub returns : goal.returns
returns c = flows-change
