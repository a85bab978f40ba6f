use Rattle.std.proofs.Common.{◌-◌, ◌^◌}
use Rattle.zone_graph.specs.Rooms.{room_of}
use Rattle.local_view.proofs.Nearing.{IsSearch}
use Rattle.local_view.proofs.nearness.near_zones.Given as goal

-- the zones found so far are near, and those that arcs join with one that was asked are found
abbrev pub invariant-loop-near : goal.invariant-loop-near
invariant-loop-near l = IsSearch l.grid (room_of l.rooms) l.side l.touched l.near l.asked

abbrev pub decreases-loop-near : goal.decreases-loop-near
decreases-loop-near l = 2 ^ 64 - l.asked
