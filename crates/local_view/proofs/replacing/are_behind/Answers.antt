use Rattle.std.proofs.Common.{arith}
use Rattle.zone_graph.proofs.Places.{at_place}
use Rattle.local_view.specs.Moved.{no_order}
use Rattle.local_view.proofs.replacing.are_behind.Goals as goal

pub bounds-cuts-orders : goal.bounds-cuts-orders
bounds-cuts-orders c = c.requires.zones _ (at_place c.args.orders.now c.loop-place.place no_order (omega arith))
