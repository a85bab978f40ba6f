use Rattle.std.proofs.Common.{length}
use Rattle.market_model.specs.Board.{resting_line}
use Rattle.local_view.proofs.Lines.{from_shown}
use Rattle.local_view.proofs.Reading.{IsReading}
use Rattle.local_view.proofs.whole.WholeLine.read.Given as goal

-- the orders in front of the next one are read
abbrev pub invariant-loop-next : goal.invariant-loop-next
invariant-loop-next g l = IsReading (g.B.Board.state l.board) l.fn.line.part l.fn.line.side l.next l.self.orders.items l.self.rows.items l.self.shown l.all

-- fewer orders are left with each
abbrev pub decreases-loop-next : goal.decreases-loop-next
decreases-loop-next g l = length (from_shown (resting_line (g.B.Board.state l.board) l.fn.line.part l.fn.line.side) l.next)
