use Rattle.std.proofs.Common.{◌≡◌, ◌<◌, ℕ, IfSome, get_or, map}
use Rattle.order_kinds.specs.declared.side.Side.{Side}
use Rattle.zone_graph.specs.Graph.{zone_count}
use Rattle.local_view.specs.Kept.{AreNext, AreSized, no_part, on_side, part_forgotten}
use Rattle.local_view.specs.Works.{IsSound}
use Rattle.local_view.proofs.views.fill_parts.Given as goal

-- the next rows of the parts so far are made
abbrev pub invariant-loop-part : goal.invariant-loop-part
invariant-loop-part g l = record {
  work : IfSome l.work IsSound;
  kept : map part_forgotten l.parts ≡ map part_forgotten l.fn.parts;
  sized : AreSized (zone_count l.grid) l.parts;
  next : (k : ℕ) (side : Side) → k < l.part → AreNext (g.B.Board.state l.board) k side (zone_count l.grid) (on_side (get_or l.parts k no_part) side);
}
