use Rattle.std.proofs.Common.{◌≡◌, ◌<◌, ℕ, [], get_or, length}
use Rattle.local_view.proofs.filling.clear_lists.Given as goal

-- the lists so far are empty
abbrev pub invariant-loop-list : goal.invariant-loop-list
invariant-loop-list l = record {
  size : length l.lists ≡ length l.fn.lists;
  cleared : (k : ℕ) → k < l.list-index → get_or l.lists k [] ≡ [];
}
