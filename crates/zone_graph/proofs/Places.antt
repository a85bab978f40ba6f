-- Items of a list and their places.
use Rattle.std.proofs.Common.{◌≡◌, ◌<◌, inl, inr, ℕ, zero, suc, List, [], ◌∷◌, length, get_or, refl, sym, subst, arith}
use Rattle.zone_graph.specs.Route.{IsIn}

-- an item of a list has a place in it
pub place_of : {X : Type 0} (x : X) (xs : List X) (d : X) → IsIn x xs → (i : ℕ) × (i < length xs) × (get_or xs i d ≡ x)
place_of x [] d h = absurd h
place_of x (y ∷ xs) d h = elim h [
  | inl e ↦ (0, omega arith, sym e)
  | inr j ↦ let r = place_of x xs d j in (suc r.0, omega (arith, r.1), r.2)
]

-- what stands at a place of a list is in it
pub at_place : {X : Type 0} (xs : List X) (i : ℕ) (d : X) → i < length xs → IsIn (get_or xs i d) xs
at_place [] i d h = absurd (omega arith)
at_place (x ∷ xs) zero d h = inl refl
at_place (x ∷ xs) (suc i) d h = inr (at_place xs i d (omega arith))

pub item_at_place : {X : Type 0} (xs : List X) (i : ℕ) (x : X) → i < length xs → x ≡ get_or xs i x → IsIn x xs
item_at_place xs i x within is = subst (λ y. IsIn y xs) (sym is) (at_place xs i x within)

-- a place within a list has one item
pub at_any : {X : Type 0} (xs : List X) (i : ℕ) (d e : X) → i < length xs → get_or xs i d ≡ get_or xs i e
at_any [] i d e within = absurd (omega arith)
at_any (x ∷ xs) zero d e within = refl
at_any (x ∷ xs) (suc i) d e within = at_any xs i d e (omega arith)
