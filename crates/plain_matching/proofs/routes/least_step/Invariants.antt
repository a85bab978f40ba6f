use Rattle.std.proofs.Common.{◌≡◌, ◌<◌, false}
use Rattle.zone_graph.specs.declared.route.Arc.{Arc}
use Rattle.zone_graph.specs.Graph.{HasArc}
use Rattle.zone_graph.specs.Rooms.{room_of}
use Rattle.plain_matching.specs.Steps.{is_step}
use Rattle.plain_matching.proofs.routes.least_step.Given as goal

-- no arc over the borders so far is a step
abbrev pub invariant-loop-border : goal.invariant-loop-border
invariant-loop-border l =
    (other : Arc) → HasArc l.grid other → other.border < l.border → is_step l.grid (room_of l.rooms) l.distances l.zone l.distance other ≡ false
