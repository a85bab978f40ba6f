use Rattle.std.proofs.Common.{◌≡◌, length}
use Rattle.order_kinds.specs.declared.side.Side.TheVariants.{Buy, Sell}
use Rattle.market_model.specs.Sweep.{first_answer}
use Rattle.sweep_core.specs.Meeting.{first_of, from_order, leg_of_shown, part_room, shown_leg, shown_line}
use Rattle.sweep_core.proofs.BuyWalk.{TriedHaveNone}
use Rattle.sweep_core.proofs.buys.leg_of_buys.Given as goal

-- none of the buys so far has a leg, nor has any of a zone that was tried
abbrev pub invariant-loop-next : goal.invariant-loop-next
invariant-loop-next g l = record {
  stands : l.next ≡ first_of (from_order (shown_line (g.B.Board.state l.board) l.part Buy) l.next);
  onward : first_answer (leg_of_shown (g.B.Board.state l.board) l.part) (from_order (shown_line (g.B.Board.state l.board) l.part Buy) l.next)
      ≡ shown_leg (g.B.Board.state l.board) l.part;
  none : TriedHaveNone (g.B.Board.state l.board).grid (g.B.Board.state l.board).hour (part_room (g.B.Board.state l.board) l.part)
      (shown_line (g.B.Board.state l.board) l.part Sell) l.tried (from_order (shown_line (g.B.Board.state l.board) l.part Buy) l.next);
}

-- fewer buys are left with each
abbrev pub decreases-loop-next : goal.decreases-loop-next
decreases-loop-next g l = length (from_order (shown_line (g.B.Board.state l.board) l.part Buy) l.next)
