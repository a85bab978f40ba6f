use Rattle.std.proofs.Common.{◌≡◌, ◌<◌, ℕ, get_or}
use Rattle.local_view.proofs.ways.has_lots.Given as goal

-- where no bit is set so far, there is nothing so far
abbrev pub invariant-loop-lots : goal.invariant-loop-lots
invariant-loop-lots l = l.bits ≡ 0 → (zone : ℕ) → zone < l.lots-index → get_or l.load zone 0 ≡ 0
