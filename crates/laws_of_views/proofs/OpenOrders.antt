-- The orders of a line are open ones of its hour.
use Rattle.std.proofs.Common.{◌≡◌, ◌∙◌, ℕ, ◌+◌, ◌≤◌, ◌==◌, ◌&&◌, Bool, true, false, cond, List, [], ◌∷◌, filter, length, sum_by, Option, Some, None, inl, inr, eq-eqb, refl, ap, arith, if◌then◌else◌}
use Rattle.std.proofs.lemmas.Bool.{and_parts}
use Rattle.std.proofs.lemmas.List.Sums.{sum_by-cons}
use Rattle.std.specs.List.{cons_option, filter_map}
use Rattle.order_kinds.specs.declared.contract.Contract.{Contract}
use Rattle.order_kinds.specs.declared.order.OrderName.{OrderName}
use Rattle.order_kinds.specs.declared.side.Side.{Side}
use Rattle.order_kinds.specs.Same.{same_contract, same_side}
use Rattle.zone_graph.specs.Pour.{lots_if}
use Rattle.zone_graph.specs.Route.{IsIn}
use Rattle.market_model.specs.declared.event.Event.{Event}
use Rattle.market_model.specs.declared.event.Event.TheVariants as event
use Rattle.market_model.specs.declared.setup.Setup.{Setup}
use Rattle.market_model.specs.Lines.{line, stands_in}
use Rattle.market_model.specs.Orders.{Placed, Standing, is_open, name_given, open_names, placed}
use Rattle.market_model.specs.WellFormed.{FitAfter}
use Rattle.laws_of_market.proofs.LineSums.{sum-line}
use Rattle.laws_of_market.proofs.Placed.{all_are_sound}
use Rattle.laws_of_market.proofs.Tests.{same_contract-eq}

counted : {X : Type 0} (xs : List X) → sum_by (λ x. 1) xs ≡ length xs
counted [] = refl
counted (x ∷ xs) = sum_by-cons (λ y. 1) x xs ∙ ap (λ n. 1 + n) (counted xs) ∙ omega arith

grows : (open_now : OrderName → Bool) (o : Option OrderName) (names : List OrderName) → length (filter open_now names) ≤ length (filter open_now (cons_option o names))
grows open_now None names = omega arith
grows open_now (Some name) names = by (open_now name)
  where
    by : (b : Bool) → length (filter open_now names) ≤ length (cond b (name ∷ filter open_now names) (filter open_now names))
    by true = omega arith
    by false = omega arith

module _ (events : List Event) (contract : Contract) (side : Side) where
  abbrev standing_in : List Event → ℕ
  standing_in es = sum_by (λ (p : Placed). lots_if (stands_in events contract side p) 1) (placed es)

  abbrev open_in : List Event → ℕ
  open_in es = length (filter (is_open events) (filter_map (name_given contract.hour) es))

  -- an event that enters no order
  other : (o : Option OrderName) (es : List Event) → standing_in es ≤ open_in es → standing_in es ≤ length (filter (is_open events) (cons_option o (filter_map (name_given contract.hour) es)))
  other o es least = let more = grows (is_open events) o (filter_map (name_given contract.hour) es) in omega (arith, least, more)

  enters : (p : Placed) (es : List Event) → (stands_in events contract side p ≡ true → p.name.hour ≡ contract.hour) → standing_in es ≤ open_in es
      → sum_by (λ (q : Placed). lots_if (stands_in events contract side q) 1) (p ∷ placed es)
      ≤ length (filter (is_open events) (cons_option (if p.name.hour == contract.hour then Some p.name else None) (filter_map (name_given contract.hour) es)))
  enters p es hour least = by (stands_in events contract side p) refl
    where
      by : (b : Bool) → stands_in events contract side p ≡ b → sum_by (λ (q : Placed). lots_if (stands_in events contract side q) 1) (p ∷ placed es)
          ≤ length (filter (is_open events) (cons_option (if p.name.hour == contract.hour then Some p.name else None) (filter_map (name_given contract.hour) es)))
      by false e =
          let none : lots_if (stands_in events contract side p) 1 ≡ 0 = ap (λ b. lots_if b 1) e in
          let rest = other (if p.name.hour == contract.hour then Some p.name else None) es least in
          omega (arith, none, rest, sum_by-cons (λ (q : Placed). lots_if (stands_in events contract side q) 1) p (placed es))
      by true e =
          let one : lots_if (stands_in events contract side p) 1 ≡ 1 = ap (λ b. lots_if b 1) e in
          let both = and_parts (is_open events p.name && same_contract p.order.contract contract) (same_side p.order.side side) e in
          let opened = (and_parts (is_open events p.name) (same_contract p.order.contract contract) both.0).0 in
          let more : length (filter (is_open events) (cons_option (if p.name.hour == contract.hour then Some p.name else None) (filter_map (name_given contract.hour) es)))
          ≡ length (p.name ∷ filter (is_open events) (filter_map (name_given contract.hour) es)) =
          ap (λ (b : Bool). length (filter (is_open events) (cons_option (if b then Some p.name else None) (filter_map (name_given contract.hour) es)))) (eq-eqb p.name.hour contract.hour (hour e))
          ∙ ap (λ b. length (cond b (p.name ∷ filter (is_open events) (filter_map (name_given contract.hour) es)) (filter (is_open events) (filter_map (name_given contract.hour) es)))) opened in
          omega (arith, one, more, least, sum_by-cons (λ (q : Placed). lots_if (stands_in events contract side q) 1) p (placed es))

  all_open : (es : List Event) → ((p : Placed) → IsIn p (placed es) → stands_in events contract side p ≡ true → p.name.hour ≡ contract.hour) → standing_in es ≤ open_in es
  all_open [] hours = omega arith
  all_open (event.Entered name caller order ∷ es) hours =
      enters (record { name = name; caller = caller; order = order }) es (hours (record { name = name; caller = caller; order = order }) (inl refl)) (all_open es (λ p i. hours p (inr i)))
  all_open (event.EnteredBlock name caller order ∷ es) hours = other (name_given contract.hour (event.EnteredBlock name caller order)) es (all_open es hours)
  all_open (_ ∷ es) hours = all_open es hours

-- so there are no more orders in a line than are open by its hour
pub line-open : (setup : Setup) (events : List Event) → FitAfter setup [] events → (contract : Contract) (side : Side)
    → length (line events contract side) ≤ length (open_names events contract.hour)
line-open setup events fit contract side =
    let all = all_open events contract side events hour in
    omega (arith, all, counted (line events contract side), sum-line events contract side (λ (s : Standing). 1))
  where
    hour : (p : Placed) → IsIn p (placed events) → stands_in events contract side p ≡ true → p.name.hour ≡ contract.hour
    hour p i stands =
        let both = and_parts (is_open events p.name && same_contract p.order.contract contract) (same_side p.order.side side) stands in
        let same = (and_parts (is_open events p.name) (same_contract p.order.contract contract) both.0).1 in
        ((all_are_sound setup events fit).orders p i).named ∙ ap (λ (c : Contract). c.hour) (same_contract-eq p.order.contract contract same)
