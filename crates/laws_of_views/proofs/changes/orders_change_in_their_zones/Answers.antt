use Rattle.laws_of_views.proofs.Differing.{orders_change}
use Rattle.laws_of_views.proofs.changes.orders_change_in_their_zones.Goals as goal

pub returns : goal.returns
returns c = orders_change
