use Rattle.laws_of_views.proofs.Differing.{no_orders}
use Rattle.laws_of_views.proofs.changes.other_events_change_no_orders.Goals as goal

pub returns : goal.returns
returns c = no_orders
