-- The makers of a line: each name stands once, and all prices cross that of a taker at any price.
use Rattle.std.proofs.Common.{◌≡◌, ◌∙◌, inl, inr, ℕ, ◌<◌, ◌≤◌, Bool, true, false, List, [], ◌∷◌, map, sum_by, int_le, neg_ℤ, pos, refl, sym, ap, subst, arith}
use Rattle.std.proofs.lemmas.Bool.{and_parts, ltb-true}
use Rattle.std.proofs.lemmas.List.Sums.{sum_by-cons}
use Rattle.order_kinds.specs.declared.contract.Contract.{Contract}
use Rattle.order_kinds.specs.declared.order.OrderName.{OrderName}
use Rattle.order_kinds.specs.declared.price.Price.{Price}
use Rattle.order_kinds.specs.declared.side.Side.{Side}
use Rattle.order_kinds.specs.declared.side.Side.TheVariants.{Buy, Sell}
use Rattle.order_kinds.specs.Price.{price_in_range}
use Rattle.order_kinds.specs.Same.{same_name}
use Rattle.order_kinds.specs.Side.{crosses, opposite}
use Rattle.zone_graph.specs.Pour.{lots_if}
use Rattle.zone_graph.specs.Route.{IsIn}
use Rattle.zone_graph.proofs.Membership.{from_map}
use Rattle.market_model.specs.declared.event.Event.{Event}
use Rattle.market_model.specs.declared.setup.Setup.{Setup}
use Rattle.market_model.specs.Lines.{line, stands_in}
use Rattle.market_model.specs.Orders.{Placed, Standing, filled, left, placed, standing}
use Rattle.market_model.specs.View.{any_price}
use Rattle.market_model.specs.WellFormed.{FitAfter}
use Rattle.laws_of_market.proofs.Balances.{covered}
use Rattle.laws_of_market.proofs.LineSums.{one_if, sum-line, sum-map, times_placed}
use Rattle.laws_of_market.proofs.Names.{names-once}
use Rattle.laws_of_market.proofs.Tests.{same_name-refl}
use Rattle.laws_of_market.proofs.Trades.{IsInLine, from_line}
use Rattle.laws_of_market.proofs.Unique.{entered-order}
use Rattle.laws_of_market.proofs.Prices.{prices-in-range}
use Rattle.laws_of_rows.specs.declared.trades.Maker.{Maker}
use Rattle.laws_of_rows.specs.Depth.{crosses_any, maker_of}
use Rattle.laws_of_views.proofs.FirstMakers.{AllCross, AreOnce}

-- ---- the names of a line

-- how often a name stands among makers
abbrev times_named : OrderName → List Maker → ℕ
times_named name makers = sum_by (λ (m : Maker). one_if (same_name m.name name)) makers

some-named : (maker : Maker) (makers : List Maker) (name : OrderName) → IsIn maker makers → same_name maker.name name ≡ true → 1 ≤ times_named name makers
some-named maker [] name i same = absurd i
some-named maker (m ∷ makers) name i same = elim i [
  | inl first ↦
      let own : one_if (same_name m.name name) ≡ 1 = ap (λ (x : Maker). one_if (same_name x.name name)) (sym first) ∙ ap one_if same in
      omega (arith, sum_by-cons (λ (x : Maker). one_if (same_name x.name name)) m makers, own)
  | inr later ↦ let rest = some-named maker makers name later same in omega (arith, sum_by-cons (λ (x : Maker). one_if (same_name x.name name)) m makers, rest)
]

once-from : (makers : List Maker) → ((name : OrderName) → times_named name makers ≤ 1) → AreOnce makers
once-from [] few = tt
once-from (maker ∷ makers) few = (
  λ other i. apart other i (same_name maker.name other.name) refl,
  once-from makers (λ name. let all = few name in omega (arith, all, sum_by-cons (λ (x : Maker). one_if (same_name x.name name)) maker makers)),
)
  where
    apart : (other : Maker) → IsIn other makers → (b : Bool) → same_name maker.name other.name ≡ b → same_name maker.name other.name ≡ false
    apart other i false e = e
    apart other i true e =
        let all = few other.name in
        let rest = some-named other makers other.name i (same_name-refl other.name) in
        let own : one_if (same_name maker.name other.name) ≡ 1 = ap one_if e in
        absurd (omega (arith, all, rest, own, sum_by-cons (λ (x : Maker). one_if (same_name x.name other.name)) maker makers))

lots_if-one : (b c : Bool) → lots_if b (one_if c) ≤ one_if c
lots_if-one true c = omega arith
lots_if-one false c = omega arith

sum-least : {X : Type 0} (f g : X → ℕ) (xs : List X) → ((x : X) → f x ≤ g x) → sum_by f xs ≤ sum_by g xs
sum-least f g [] each = omega arith
sum-least f g (x ∷ xs) each = let own = each x in let rest = sum-least f g xs each in omega (arith, sum_by-cons f x xs, sum_by-cons g x xs, own, rest)

-- ---- prices

crosses-all : (side : Side) (price : Price) → price_in_range price ≡ true → crosses (opposite side) (any_price (opposite side)) price ≡ true
crosses-all Buy price allowed = (and_parts (int_le (neg_ℤ (pos 999900)) price.0) (int_le price.0 (pos 999900)) allowed).0
crosses-all Sell price allowed = (and_parts (int_le (neg_ℤ (pos 999900)) price.0) (int_le price.0 (pos 999900)) allowed).1

module _ (setup : Setup) (events : List Event) (fit : FitAfter setup [] events) (contract : Contract) (side : Side) where
  abbrev orders : List Standing
  orders = line events contract side

  abbrev makers : List Maker
  makers = map maker_of (line events contract side)

  pub makers-once : AreOnce (map maker_of (line events contract side))
  makers-once = once-from makers (λ name.
      let counted = sum-map (λ (m : Maker). one_if (same_name m.name name)) maker_of orders in
      let over = sum-line events contract side (λ (s : Standing). one_if (same_name s.name name)) in
      let least = sum-least (λ (p : Placed). lots_if (stands_in events contract side p) (one_if (same_name p.name name))) (λ (p : Placed). one_if (same_name p.name name)) (placed events)
      (λ p. lots_if-one (stands_in events contract side p) (same_name p.name name)) in
      let few = times_placed name events in
      let once = (names-once setup events fit).once name in
      omega (arith, counted, over, least, few, once))

  pub makers-cross : AllCross side (map maker_of (line events contract side))
  makers-cross maker i =
      let from = from_map maker_of maker orders i in
      let stands = from_line events contract side from.0 from.1 in
      ap (crosses_any side) from.2 ∙ subst (λ (s : Standing). crosses_any side (maker_of s) ≡ true) (sym stands.is) (at from.0 stands)
    where
      at : (x : Standing) (s : IsInLine events contract side x) → crosses_any side (maker_of (standing events s.order)) ≡ true
      at x s =
          let there = s.is_open.is_placed in
          let some : 0 < left events s.order.name = ltb-true 0 (left events s.order.name) s.is_open.is_left in
          let all = entered-order events s.order (names-once setup events fit) there in
          let covers = covered setup events fit s.order.name in
          crosses-all side (standing events s.order).price (prices-in-range setup events fit s.order there (filled events s.order.name) (omega (arith, some, all, covers)))
