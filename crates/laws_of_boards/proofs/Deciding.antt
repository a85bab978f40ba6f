-- Where whatever is asked of a line is answered by an order only if it is by those of its zone in
-- front, the fronts of the line answer for it.
use Rattle.std.proofs.Common.{◌≡◌, ◌∙◌, inl, inr, ℕ, Bool, true, false, cond, List, [], ◌∷◌, find, Option, Some, None, nat_eq, eqb-true, refl, sym, ap, if◌then◌else◌}
use Rattle.std.proofs.lemmas.Bool.{or_cases, true≢false}
use Rattle.zone_graph.specs.Route.{IsIn, has}
use Rattle.market_model.specs.Orders.{Standing}
use Rattle.market_model.specs.Sweep.{first_answer, or_else}
use Rattle.laws_of_boards.specs.Fronts.{fronts, fronts_besides}

-- an order of which nothing is answered answers for those of its zone behind it
abbrev pub WorseBehind : {Y : Type 0} → (Standing → Option Y) → List Standing → Type 0
WorseBehind ask [] = Unit {0}
WorseBehind ask (order ∷ orders) =
    ((other : Standing) → IsIn other orders → other.order.zone ≡ order.order.zone → ask order ≡ None → ask other ≡ None) × WorseBehind ask orders

module _ {Y : Type 0} (ask : Standing → Option Y) where
  -- none of those whose zone is among some answers
  abbrev NoneOf : (zones : List ℕ) → List Standing → Type 0
  NoneOf zones orders = (other : Standing) → IsIn other orders → has other.order.zone zones ≡ true → ask other ≡ None

  besides-decide : (zones : List ℕ) (orders : List Standing) → WorseBehind ask orders → NoneOf zones orders
      → first_answer ask orders ≡ first_answer ask (fronts_besides zones orders)
  besides-decide zones [] worse none = refl
  besides-decide zones (order ∷ orders) worse none = go (λ more rest. besides-decide more orders worse.1 rest) (has order.order.zone zones) refl
    where
      go : ((more : List ℕ) → NoneOf more orders → first_answer ask orders ≡ first_answer ask (fronts_besides more orders))
          → (b : Bool) → has order.order.zone zones ≡ b
          → first_answer ask (order ∷ orders) ≡ first_answer ask (if b then fronts_besides zones orders else (order ∷ fronts_besides (order.order.zone ∷ zones) orders))
      go later true e = ap (λ o. or_else o (λ _. first_answer ask orders)) (none order (inl refl) e) ∙ later zones (λ other i. none other (inr i))
      go later false e = asked (ask order) refl
        where
          asked : (o : Option Y) → ask order ≡ o
              → or_else o (λ _. first_answer ask orders) ≡ or_else o (λ _. first_answer ask (fronts_besides (order.order.zone ∷ zones) orders))
          asked (Some y) is = refl
          asked None is = later (order.order.zone ∷ zones)
              (λ other i there. elim (or_cases (nat_eq order.order.zone other.order.zone) (has other.order.zone zones) there) [
                | inl same ↦ worse.0 other i (sym (eqb-true order.order.zone other.order.zone same)) is
                | inr h ↦ none other (inr i) h
              ])

  pub fronts-decide : (orders : List Standing) → WorseBehind ask orders → first_answer ask orders ≡ first_answer ask (fronts orders)
  fronts-decide orders worse = besides-decide [] orders worse (λ other i h. absurd (true≢false (sym h)))

-- what is found is the first answer of those that pass
abbrev pub if_passes : (Standing → Bool) → Standing → Option Standing
if_passes p order = if p order then Some order else None

found-asked : (p : Standing → Bool) (orders : List Standing) → find p orders ≡ first_answer (if_passes p) orders
found-asked p [] = refl
found-asked p (order ∷ orders) = go (found-asked p orders) (p order)
  where
    go : find p orders ≡ first_answer (if_passes p) orders → (b : Bool)
        → cond b (Some order) (find p orders) ≡ or_else (if b then Some order else None) (λ _. first_answer (if_passes p) orders)
    go rest true = refl
    go rest false = rest

pub found-in_fronts : (p : Standing → Bool) (orders : List Standing) → WorseBehind (if_passes p) orders → find p orders ≡ find p (fronts orders)
found-in_fronts p orders worse = found-asked p orders ∙ fronts-decide (if_passes p) orders worse ∙ sym (found-asked p (fronts orders))
