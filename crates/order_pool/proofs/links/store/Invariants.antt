use Rattle.std.proofs.Common.{◌≡◌, ◌≤◌, length}
use Rattle.order_pool.specs.Rows.{padded}
use Rattle.order_pool.proofs.links.store.Given as goal

-- what is stored so far shows the same row
abbrev pub invariant-loop-made : goal.invariant-loop-made
invariant-loop-made l =
    record { same : padded l.stored.items l.first l.stored.room ≡ padded l.fn.stored.items l.first l.fn.stored.room; made : length l.stored.items ≡ l.made; within : length l.stored.items ≤ l.stored.room; room : l.stored.room ≡ l.fn.stored.room }
