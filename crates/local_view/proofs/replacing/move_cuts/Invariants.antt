use Rattle.std.proofs.Common.{◌≡◌, ◌<◌, ◌≤◌, ℕ, get_or}
use Rattle.local_view.specs.Moved.{IsMoved}
use Rattle.local_view.proofs.replacing.move_cuts.Given as goal

-- the cuts so far are moved, and the others are where they were
abbrev pub invariant-loop-zone : goal.invariant-loop-zone
invariant-loop-zone l = record {
  moved : (zone : ℕ) → zone < l.zone → IsMoved l.replaced.first l.replaced.last l.replaced.next (get_or l.fn.cuts zone 0) (get_or l.cuts zone 0);
  kept : (zone : ℕ) → l.zone ≤ zone → get_or l.cuts zone 0 ≡ get_or l.fn.cuts zone 0;
}
