use Rattle.laws_of_views.proofs.Differing.{grid_zones}
use Rattle.laws_of_views.proofs.changes.zones_of_events_are_of_the_grid.Goals as goal

pub returns : goal.returns
returns c = grid_zones
