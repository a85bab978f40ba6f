use Rattle.std.proofs.Common.{◌≡◌, true, false}
use Rattle.order_pool.specs.Lines.{line_at}
use Rattle.record_pool.proofs.SpotLemmas.{Of, IsBefore}
use Rattle.record_pool.proofs.Walks.{IsWalked, IsWalkedBack, left_from}
use Rattle.record_pool.proofs.ranked.spot.Given as goal

abbrev pub invariant-loop-ahead : goal.invariant-loop-ahead
invariant-loop-ahead g l =
    IsWalked (Of (IsBefore (g.T.Ranked.cmp l.side) l.joining false) l.records) (line_at l.lines l.line) l.ahead
    × IsWalkedBack (Of (IsBefore (g.T.Ranked.cmp l.side) l.joining true) l.records) (line_at l.lines l.line) l.behind

abbrev pub decreases-loop-ahead : goal.decreases-loop-ahead
decreases-loop-ahead g l = left_from (line_at l.lines l.line) l.ahead
