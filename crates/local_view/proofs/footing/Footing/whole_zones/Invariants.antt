use Rattle.std.proofs.Common.{◌≡◌, ◌<◌, ℕ, true}
use Rattle.cut_proof.specs.ZoneSet.{holds}
use Rattle.local_view.specs.Footing.{certificate_at}
use Rattle.local_view.proofs.footing.Footing.whole_zones.Given as goal

-- the zones so far are in the set, where they have the rows of the whole line
abbrev pub invariant-loop-zone : goal.invariant-loop-zone
invariant-loop-zone l = (k : ℕ) → k < l.zone → (certificate_at l.self.certificates.items k).is_whole ≡ true → holds l.whole k ≡ true
