use Rattle.std.proofs.Common.{◌≡◌, length}
use Rattle.zone_graph.specs.Graph.{border_count}
use Rattle.zone_graph.specs.Rooms.{room_of}
use Rattle.cut_proof.specs.Carrying.{FitTogether}
use Rattle.laws_of_rows.specs.Depth.{AreInZones, depth_of}
use Rattle.laws_of_rows.proofs.Fills.{IsSoFar}
use Rattle.plain_market.proofs.rows.rows_filled.Given as goal

-- the rows are those of the first trades, and what the makers show, the rooms and what is left are
-- what these leave
abbrev pub invariant-loop-rows : goal.invariant-loop-rows
invariant-loop-rows l = record {
  size : length l.rooms ≡ border_count l.grid;
  fit : FitTogether l.grid (room_of l.rooms);
  makers : AreInZones l.grid l.makers;
  so_far : IsSoFar l.grid l.side l.zone (depth_of l.fn.makers l.fn.rooms 4294967295) (depth_of l.makers l.rooms l.left) l.rows.items;
}

abbrev pub decreases-loop-rows : goal.decreases-loop-rows
decreases-loop-rows l = l.left
