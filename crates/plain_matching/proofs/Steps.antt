-- The step over the least border.
use Rattle.std.proofs.Common.{◌≡◌, ◌∙◌, ◌+◌, ◌<◌, inl, inr, ℕ, Bool, true, false, refl, sym, ap, arith}
use Rattle.std.proofs.lemmas.Bool.{cases_lt}
use Rattle.zone_graph.specs.declared.route.Arc.{Arc}
use Rattle.zone_graph.specs.Graph.{Graph, HasArc}

-- no step over one more border
pub none_more : (graph : Graph) (border : ℕ) (test : Arc → Bool) (forward backward : Arc)
    → forward ≡ record { border = border; forward = true } → backward ≡ record { border = border; forward = false }
    → test forward ≡ false → test backward ≡ false
    → ((other : Arc) → HasArc graph other → other.border < border → test other ≡ false)
    → (other : Arc) → HasArc graph other → other.border < border + 1 → test other ≡ false
none_more graph border test forward backward one two first second before other known less = elim (cases_lt other.border border) [
  | inl under ↦ before other known under
  | inr most ↦ by other.forward refl (omega arith)
]
  where
    by : (d : Bool) → other.forward ≡ d → border ≡ other.border → test other ≡ false
    by true e same = ap test (sym (one ∙ is true e same)) ∙ first
      where
        is : (d : Bool) → other.forward ≡ d → border ≡ other.border → record { border = border; forward = d } ≡ other
        is d e same = λ i. record { border = same i; forward = sym e i }
    by false e same = ap test (sym (two ∙ is false e same)) ∙ second
      where
        is : (d : Bool) → other.forward ≡ d → border ≡ other.border → record { border = border; forward = d } ≡ other
        is d e same = λ i. record { border = same i; forward = sym e i }
