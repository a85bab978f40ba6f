use Rattle.std.proofs.Common.{◌≡◌, ◌+◌, length, vec_capacity}
use Rattle.order_kinds.specs.declared.side.Side.TheVariants.{Sell}
use Rattle.zone_graph.specs.Graph.{zone_count}
use Rattle.sweep_core.specs.Meeting.{first_of, from_order, shown_line}
use Rattle.sweep_core.proofs.FreeZones.{free_zones}
use Rattle.sweep_core.proofs.SellFronts.{FrontsDecide, MarkedAreHidden}
use Rattle.sweep_core.proofs.sells.sell_fronts.Given as goal

-- the fronts so far and what is left of the line decide, and each front has taken a zone's place
abbrev pub invariant-loop-next : goal.invariant-loop-next
invariant-loop-next g l = record {
  stands : l.next ≡ first_of (from_order (shown_line (g.B.Board.state l.board) l.part Sell) l.next);
  decide : FrontsDecide (shown_line (g.B.Board.state l.board) l.part Sell) l.best l.fronts.items
      (from_order (shown_line (g.B.Board.state l.board) l.part Sell) l.next);
  hidden : MarkedAreHidden l.marks l.fronts.items (from_order (shown_line (g.B.Board.state l.board) l.part Sell) l.next);
  room : length l.fronts.items + free_zones (zone_count l.grid) l.marks ≡ zone_count l.grid;
  capacity : vec_capacity l.fronts ≡ zone_count l.grid;
}

-- fewer sells are left with each
abbrev pub decreases-loop-next : goal.decreases-loop-next
decreases-loop-next g l = length (from_order (shown_line (g.B.Board.state l.board) l.part Sell) l.next)
