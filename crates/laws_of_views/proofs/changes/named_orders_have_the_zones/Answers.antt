use Rattle.laws_of_views.proofs.Differing.{named_zones}
use Rattle.laws_of_views.proofs.changes.named_orders_have_the_zones.Goals as goal

pub returns : goal.returns
returns c = named_zones
