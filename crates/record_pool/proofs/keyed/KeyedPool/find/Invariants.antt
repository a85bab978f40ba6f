use Rattle.std.proofs.Common.{◌≡◌, ◌≢◌, Some}
use Rattle.order_pool.specs.Lines.{line_at}
use Rattle.record_pool.specs.Keyed.{held_at}
use Rattle.record_pool.proofs.Walks.{IsWalked, left_from}
use Rattle.record_pool.proofs.KeyedLemmas.{IsOther}
use Rattle.record_pool.proofs.keyed.KeyedPool.find.Given as goal

abbrev pub invariant-loop-at : goal.invariant-loop-at
invariant-loop-at g l =
    IsWalked (IsOther g.T.Keyed.key_of l.self-inside.pool.places l.key) (line_at l.self-inside.pool.lines (g.T.Keyed.bucket_of l.key)) l.at

abbrev pub decreases-loop-at : goal.decreases-loop-at
decreases-loop-at g l = left_from (line_at l.self-inside.pool.lines (g.T.Keyed.bucket_of l.key)) l.at
