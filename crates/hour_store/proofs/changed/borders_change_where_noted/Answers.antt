use Rattle.hour_store.proofs.BordersChange.{borders-change}
use Rattle.hour_store.proofs.changed.borders_change_where_noted.Goals as goal

pub returns : goal.returns
returns c = borders-change
