use Rattle.std.proofs.Common.{◌≡◌, ℕ, get_or, length}
use Rattle.local_view.specs.Cuts.{IsNoLater}
use Rattle.local_view.proofs.cuts.cut_no_later.Given as goal

-- so far they are no later
abbrev pub invariant-loop : goal.invariant-loop
invariant-loop l = record {
  size : length l.places ≡ length l.fn.places;
  cuts : (zone : ℕ) → IsNoLater l.place (get_or l.fn.places zone 0) (get_or l.places zone 0);
}
