use Rattle.std.proofs.Common.{◌≡◌}
use Rattle.market_model.specs.Sweep.{left_in_hour}
use Rattle.sweep_core.specs.Sweeping.{AreSized, IsToBeSwept, OthersAreQuiet}
use Rattle.sweep_core.proofs.Progress.{IsUnderWay}
use Rattle.sweep_core.proofs.sweeping.sweep_opened.Given as goal

-- the legs so far are the first of the sweep, and the parts that are left out have none
abbrev pub invariant-loop-rooms : goal.invariant-loop-rooms
invariant-loop-rooms g l = record {
  swept : IsToBeSwept l.grid l.hour (g.B.Board.state l.board);
  size : AreSized l.grid l.rooms;
  quiet : OthersAreQuiet (g.B.Board.state l.board) l.parts;
  way : IsUnderWay (g.B.Board.state l.fn.board) (g.B.Board.state l.board);
  kept : g.B.Board.rest l.board ≡ g.B.Board.rest l.fn.board;
}

-- each leg lowers what is left in the hour
abbrev pub decreases-loop-rooms : goal.decreases-loop-rooms
decreases-loop-rooms g l = left_in_hour (g.B.Board.state l.board).events (g.B.Board.state l.board).hour
