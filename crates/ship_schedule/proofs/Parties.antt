-- Who of a trade sells and who buys: of each side one order or block, so that its zone alone counts.
use Rattle.std.proofs.Common.{◌≡◌, ◌∙◌, ◌⊎◌, inl, inr, ℕ, ◌==◌, ◌&&◌, ◌||◌, Bool, true, false, List, [], ◌∷◌, refl, sym, ap}
use Rattle.std.proofs.lemmas.Bool.{and_from, and_parts, or_cases, or_right, true≢false}
use Rattle.std.specs.List.{list_any}
use Rattle.order_kinds.specs.declared.order.OrderName.{OrderName}
use Rattle.order_kinds.specs.declared.side.Side.{Side}
use Rattle.order_kinds.specs.declared.side.Side.TheVariants.{Buy, Sell}
use Rattle.order_kinds.specs.Same.{same_name, same_side}
use Rattle.order_kinds.specs.Side.{opposite}
use Rattle.zone_graph.specs.Route.{IsIn}
use Rattle.market_model.specs.declared.event.Leg.{Leg}
use Rattle.market_model.specs.Orders.{names}
use Rattle.laws_of_market.proofs.Balances.{names-maker, names-taker}
use Rattle.laws_of_market.proofs.Tests.{same_name-eq}

-- ---- a test that one item alone can pass

any-some : {X : Type 0} (p : X → Bool) (x : X) (xs : List X) → IsIn x xs → p x ≡ true → list_any p xs ≡ true
any-some p x [] i e = absurd i
any-some p x (y ∷ ys) i e = elim i [
  | inl s ↦ ap (λ b. b || list_any p ys) (ap p (sym s) ∙ e)
  | inr j ↦ or_right (p y) (list_any p ys) (any-some p x ys j e)
]

any-no : {X : Type 0} (p : X → Bool) (xs : List X) → ((y : X) → IsIn y xs → p y ≡ false) → list_any p xs ≡ false
any-no p [] each = refl
any-no p (y ∷ ys) each = ap (λ b. b || list_any p ys) (each y (inl refl)) ∙ any-no p ys (λ z j. each z (inr j))

-- some item passes where that one does
any-one : {X : Type 0} (p : X → Bool) (x : X) (xs : List X) → IsIn x xs → ((y : X) → IsIn y xs → p y ≡ true → y ≡ x) → list_any p xs ≡ p x
any-one {X} p x xs i only = by (p x) refl
  where
    failing : p x ≡ false → (y : X) → IsIn y xs → (b : Bool) → p y ≡ b → p y ≡ false
    failing e y j false k = k
    failing e y j true k = absurd (true≢false (sym k ∙ ap p (only y j k) ∙ e))

    by : (b : Bool) → p x ≡ b → list_any p xs ≡ p x
    by true e = any-some p x xs i e ∙ sym e
    by false e = any-no p xs (λ y j. failing e y j (p y) refl) ∙ sym e

-- ---- sides

same_side-itself : (side : Side) → same_side side side ≡ true
same_side-itself Buy = refl
same_side-itself Sell = refl

not_opposite : (side : Side) → same_side (opposite side) side ≡ false
not_opposite Buy = refl
not_opposite Sell = refl

-- ---- of orders, or of blocks

-- by the taker's side: who sells, and who buys
abbrev pub seller_by : {X : Type 0} → (taker maker : X) → Side → X
seller_by taker maker Buy = maker
seller_by taker maker Sell = taker

abbrev pub buyer_by : {X : Type 0} → (taker maker : X) → Side → X
buyer_by taker maker Buy = taker
buyer_by taker maker Sell = maker

pub seller-either : {X : Type 0} (P : X → Type 0) (taker maker : X) (side : Side) → P taker → P maker → P (seller_by taker maker side)
seller-either P taker maker Buy p q = q
seller-either P taker maker Sell p q = p

pub buyer-either : {X : Type 0} (P : X → Type 0) (taker maker : X) (side : Side) → P taker → P maker → P (buyer_by taker maker side)
buyer-either P taker maker Buy p q = p
buyer-either P taker maker Sell p q = q

module _ (X : Type 0) (name : X → OrderName) (side : X → Side) (zone : X → ℕ) (xs : List X)
    (once : (a b : X) → IsIn a xs → IsIn b xs → name a ≡ name b → a ≡ b)
    (leg : Leg) (taker maker : X) (taker_in : IsIn taker xs) (maker_in : IsIn maker xs)
    (taker_named : name taker ≡ leg.taker) (maker_named : name maker ≡ leg.maker) (opposed : side maker ≡ opposite (side taker)) where
  -- one that the leg names, of a side, in a zone
  abbrev is_of : Side → (zone : ℕ) → X → Bool
  is_of wanted place x = names leg (name x) && same_side (side x) wanted && (zone x == place)

  named-either : (y : X) → IsIn y xs → names leg (name y) ≡ true → (y ≡ taker) ⊎ (y ≡ maker)
  named-either y i h = elim (or_cases (same_name leg.taker (name y)) (same_name leg.maker (name y)) h) [
    | inl t ↦ inl (once y taker i taker_in (sym (taker_named ∙ same_name-eq leg.taker (name y) t)))
    | inr m ↦ inr (once y maker i maker_in (sym (maker_named ∙ same_name-eq leg.maker (name y) m)))
  ]

  -- where the one is of a side and the other is not, the zone of the one decides
  module _ (one other : X) (one_in : IsIn one xs) (one_named : names leg (name one) ≡ true)
      (either : (y : X) → IsIn y xs → names leg (name y) ≡ true → (y ≡ one) ⊎ (y ≡ other))
      (wanted : Side) (is_wanted : same_side (side one) wanted ≡ true) (is_not : same_side (side other) wanted ≡ false) (place : ℕ) where
    only : (y : X) → IsIn y xs → is_of wanted place y ≡ true → y ≡ one
    only y i h =
        let outer = and_parts (names leg (name y) && same_side (side y) wanted) (zone y == place) h in
        let inner = and_parts (names leg (name y)) (same_side (side y) wanted) outer.0 in
        elim (either y i inner.0) [
          | inl e ↦ e
          | inr e ↦ absurd (true≢false (sym inner.1 ∙ ap (λ (x : X). same_side (side x) wanted) e ∙ is_not))
        ]

    decides : list_any (is_of wanted place) xs ≡ (zone one == place)
    decides =
        any-one (is_of wanted place) one xs one_in only
        ∙ ap (λ b. b && (zone one == place)) (and_from (names leg (name one)) (same_side (side one) wanted) one_named is_wanted)

  taker_is_named : names leg (name taker) ≡ true
  taker_is_named = ap (names leg) taker_named ∙ names-taker leg

  maker_is_named : names leg (name maker) ≡ true
  maker_is_named = ap (names leg) maker_named ∙ names-maker leg

  swapped : (y : X) → IsIn y xs → names leg (name y) ≡ true → (y ≡ maker) ⊎ (y ≡ taker)
  swapped y i h = elim (named-either y i h) [ inl e ↦ inr e | inr e ↦ inl e ]

  -- the taker's zone on its own side
  pub by_taker : (place : ℕ) → list_any (is_of (side taker) place) xs ≡ (zone taker == place)
  by_taker place =
      decides taker maker taker_in taker_is_named named-either (side taker) (same_side-itself (side taker))
      (ap (λ s. same_side s (side taker)) opposed ∙ not_opposite (side taker)) place

  opposite_is_not : (own its : Side) → its ≡ opposite own → same_side own its ≡ false
  opposite_is_not Buy Buy e = absurd (cc)
  opposite_is_not Buy Sell e = refl
  opposite_is_not Sell Buy e = refl
  opposite_is_not Sell Sell e = absurd (cc)

  -- the maker's zone on the other
  pub by_maker : (place : ℕ) → list_any (is_of (side maker) place) xs ≡ (zone maker == place)
  by_maker place =
      decides maker taker maker_in maker_is_named swapped (side maker) (same_side-itself (side maker)) (opposite_is_not (side taker) (side maker) opposed) place

  -- so it is of the one that sells, and of the one that buys
  pub sells : (place : ℕ) → list_any (is_of Sell place) xs ≡ (zone (seller_by taker maker (side taker)) == place)
  sells place = by (side taker) (side maker) refl refl opposed
    where
      by : (own its : Side) → side taker ≡ own → side maker ≡ its → its ≡ opposite own → list_any (is_of Sell place) xs ≡ (zone (seller_by taker maker own) == place)
      by Sell its e k o = ap (λ s. list_any (is_of s place) xs) (sym e) ∙ by_taker place
      by Buy Sell e k o = ap (λ s. list_any (is_of s place) xs) (sym k) ∙ by_maker place
      by Buy Buy e k o = absurd (cc)

  pub buys : (place : ℕ) → list_any (is_of Buy place) xs ≡ (zone (buyer_by taker maker (side taker)) == place)
  buys place = by (side taker) (side maker) refl refl opposed
    where
      by : (own its : Side) → side taker ≡ own → side maker ≡ its → its ≡ opposite own → list_any (is_of Buy place) xs ≡ (zone (buyer_by taker maker own) == place)
      by Buy its e k o = ap (λ s. list_any (is_of s place) xs) (sym e) ∙ by_taker place
      by Sell Buy e k o = ap (λ s. list_any (is_of s place) xs) (sym k) ∙ by_maker place
      by Sell Sell e k o = absurd (cc)
