use Rattle.std.proofs.Common.{◌≡◌, drop}
use Rattle.sweep_core.specs.Sweeping.{AreSized, OthersAreQuiet, first_leg, next_event, order_numbers}
use Rattle.sweep_core.proofs.parts.next_leg.Given as goal

-- none of the parts so far has a leg
abbrev pub invariant-loop-part : goal.invariant-loop-part
invariant-loop-part g l = record {
  size : AreSized l.grid l.rooms;
  quiet : OthersAreQuiet (g.B.Board.state l.board) l.parts;
  onward : first_leg (g.B.Board.state l.board) (drop l.part-index order_numbers) ≡ next_event (g.B.Board.state l.board);
}
