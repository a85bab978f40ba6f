use Rattle.std.proofs.Common.{◌≡◌}
use Rattle.match_core.specs.Walks.{Stands}
use Rattle.match_core.proofs.Takings.{HasMade}
use Rattle.match_core.proofs.taking.take.Given as goal

-- the first legs of the taking were made
abbrev pub invariant-loop-walk : goal.invariant-loop-walk
invariant-loop-walk g l = record {
  stands : Stands (g.B.Board.state l.board) l.walk;
  made : HasMade (g.B.Board.state l.fn.board) (g.B.Board.state l.board) l.fn.taker.name;
  name : l.walk.taker.name ≡ l.fn.taker.name;
  grid : l.grid ≡ (g.B.Board.state l.board).grid;
  kept : g.B.Board.rest l.board ≡ g.B.Board.rest l.fn.board;
}

-- each lowers what is left
abbrev pub decreases-loop-walk : goal.decreases-loop-walk
decreases-loop-walk g l = l.walk.taker.left
