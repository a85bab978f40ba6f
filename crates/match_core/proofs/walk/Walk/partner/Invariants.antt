use Rattle.std.proofs.Common.{◌≡◌, length}
use Rattle.match_core.specs.Walks.{StandsAt}
use Rattle.match_core.proofs.Walking.{rest_of_line}
use Rattle.match_core.proofs.walk.Walk.partner.Given as goal

-- none of the orders that were passed over can trade
abbrev pub invariant-loop-next : goal.invariant-loop-next
invariant-loop-next g l = record {
  stands : StandsAt (g.B.Board.state l.board) l.self l.next;
  taker : l.self.taker ≡ l.fn.self.taker;
}

-- fewer of the line are left with each
abbrev pub decreases-loop-next : goal.decreases-loop-next
decreases-loop-next g l = length (rest_of_line (g.B.Board.state l.board) l.self l.next)
