use Rattle.std.proofs.Common.{◌≡◌, length}
use Rattle.order_kinds.specs.Period.{block_quarters}
use Rattle.zone_graph.specs.declared.route.Arc.{Arc}
use Rattle.zone_graph.specs.Graph.{HasArc, border_count}
use Rattle.zone_graph.specs.Rooms.{room_of}
use Rattle.market_model.specs.Room.{room}
use Rattle.plain_capacity.proofs.rooms.block_rooms.Given as goal

-- the rooms over the hours so far
abbrev pub invariant-loop-hour : goal.invariant-loop-hour
invariant-loop-hour l = record {
  size : length l.rooms ≡ border_count l.grid;
  rooms : (arc : Arc) → HasArc l.grid arc → room_of l.rooms arc ≡ room l.events (block_quarters l.first l.hour) arc;
}
