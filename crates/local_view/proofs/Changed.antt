-- The borders whose rooms changed, found one after the other.
use Rattle.std.proofs.Common.{◌≡◌, ◌⊎◌, ℕ, ◌+◌, ◌<◌, List, [], ◌∷◌, ◌++◌, inl, inr, refl, subst, sym, arith}
use Rattle.std.proofs.lemmas.Bool.Decides.{eqb_tells}
use Rattle.zone_graph.specs.declared.route.Arc.{Arc}
use Rattle.zone_graph.specs.Route.{IsIn}
use Rattle.zone_graph.proofs.Membership.{IsIn-append, IsIn-left, IsIn-right}

-- of so many first borders those are listed that changed
pub record AreFound (old new : Arc → ℕ) (count : ℕ) (changed : List ℕ) : Type 0 where
  pub within : (border : ℕ) → IsIn border changed → border < count
  pub same : (arc : Arc) → arc.border < count → IsIn arc.border changed ⊎ (new arc ≡ old arc)

-- one more, which is listed
pub one_changed : (old new : Arc → ℕ) (count : ℕ) (changed : List ℕ) → AreFound old new count changed → AreFound old new (count + 1) (changed ++ count ∷ [])
one_changed old new count changed are = record {
  within = λ border i. elim (IsIn-append border changed (count ∷ []) i) [
    | inl before ↦ let less = are.within border before in omega (arith, less)
    | inr own ↦ elim own [ inl same ↦ omega (arith, same) | inr none ↦ absurd none ]
  ];
  same = λ arc less. elim (eqb_tells arc.border count) [
    | inl here ↦ inl (subst (λ border. IsIn border (changed ++ count ∷ [])) (sym here.1) (IsIn-right count changed (count ∷ []) (inl refl)))
    | inr apart ↦ elim (are.same arc (let other = apart.1 in omega (arith, less, other))) [
      | inl before ↦ inl (IsIn-left arc.border changed (count ∷ []) before)
      | inr same ↦ inr same
    ]
  ];
}

-- one more, whose rooms are the same
pub none_changed : (old new : Arc → ℕ) (count : ℕ) (changed : List ℕ) → ((arc : Arc) → arc.border ≡ count → new arc ≡ old arc) → AreFound old new count changed
    → AreFound old new (count + 1) changed
none_changed old new count changed alike are = record {
  within = λ border i. let less = are.within border i in omega (arith, less);
  same = λ arc less. elim (eqb_tells arc.border count) [
    | inl here ↦ inr (alike arc here.1)
    | inr apart ↦ are.same arc (let other = apart.1 in omega (arith, less, other))
  ];
}
