use Rattle.std.proofs.Common.{◌≡◌, ◌<◌, ◌≤◌, ℕ, [], get_or, length}
use Rattle.local_view.specs.Rows.{chosen_at}
use Rattle.local_view.proofs.part_views.adopt_lists.Given as goal

-- the lists so far have changed places where they were computed, and the others are as they were
abbrev pub invariant-loop-zone : goal.invariant-loop-zone
invariant-loop-zone l = record {
  size : length l.kept ≡ length l.fn.kept;
  next_size : length l.next ≡ length l.fn.next;
  changed : (k : ℕ) → k < l.zone → get_or l.kept k [] ≡ chosen_at l.computed l.fn.kept l.fn.next k;
  kept : (k : ℕ) → l.zone ≤ k → get_or l.kept k [] ≡ get_or l.fn.kept k [];
  next : (k : ℕ) → l.zone ≤ k → get_or l.next k [] ≡ get_or l.fn.next k [];
}
