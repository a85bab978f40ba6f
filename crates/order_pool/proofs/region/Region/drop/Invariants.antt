use Rattle.std.proofs.Common.{◌≡◌, ◌<◌, ◌≤◌, ℕ, length, get_or, None}
use Rattle.order_pool.proofs.region.Region.drop.Given as goal

-- the items so far are taken out of their places
abbrev pub invariant-loop-index : goal.invariant-loop-index
invariant-loop-index g l = record {
  at : l.cells.at ≡ l.initial.cells.at;
  long : length l.cells.slots ≡ length l.initial.cells.slots;
  taken : (k : ℕ) → k < l.index → get_or l.cells.slots k None ≡ None;
  left : (k : ℕ) → l.index ≤ k → get_or l.cells.slots k None ≡ get_or l.initial.cells.slots k None;
}
