use Rattle.std.proofs.Common.{◌≡◌, ◌<◌, ℕ, get_or}
use Rattle.zone_graph.specs.declared.route.Arc.{Arc}
use Rattle.zone_graph.specs.Rooms.{room_of}
use Rattle.local_view.specs.Moved.{StandsOver, cut_in, flow_in}
use Rattle.local_view.proofs.still_standing.stand_over.Given as goal

-- the flow and cuts stand over the borders so far
abbrev pub invariant-loop-place : goal.invariant-loop-place
invariant-loop-place l = (k : ℕ) → k < l.place → (arc : Arc) → arc.border ≡ get_or l.changed k 0
    → StandsOver l.grid (room_of l.new) l.side (flow_in l.flow) (cut_in l.cuts) arc
