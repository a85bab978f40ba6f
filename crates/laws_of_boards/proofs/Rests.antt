-- What an event leaves of an order that stood in a line before: one of its zone, at no better price.
use Rattle.std.proofs.Common.{◌≡◌, ℕ, ◌*◌, ◌<◌, ◌≤◌, false, List, [], None, refl, sym, ap, subst, ℤ, pos, ◌+ℤ◌, ◌-ℤ◌, ◌<ℤ◌, ◌≤ℤ◌, arith}
use Rattle.std.proofs.Math.Nat.{mul-le-mul_left}
use Rattle.std.proofs.lemmas.Bool.{lt-ltb, ltb-true}
use Rattle.std.specs.Cmp.{int_ranks}
use Rattle.std.specs.Ordering.{MatchOrdering, int_cmp, is_lt}
use Rattle.std.specs.declared.cmp.Ordering.{Ordering}
use Rattle.std.specs.declared.cmp.Ordering.TheVariants.{Less, Equal, Greater}
use Rattle.order_kinds.specs.declared.contract.Contract.{Contract}
use Rattle.order_kinds.specs.declared.order.Kind.{Kind}
use Rattle.order_kinds.specs.declared.order.Kind.TheVariants as kind
use Rattle.order_kinds.specs.declared.order.Order.{Order}
use Rattle.order_kinds.specs.declared.price.Price.{Price}
use Rattle.order_kinds.specs.declared.side.Side.{Side}
use Rattle.order_kinds.specs.declared.side.Side.TheVariants.{Buy, Sell}
use Rattle.order_kinds.specs.Order.{order_fault, peak_number, peak_price}
use Rattle.order_kinds.specs.Side.{prefers}
use Rattle.zone_graph.specs.Route.{IsIn}
use Rattle.iceberg_peak.proofs.PeakLemmas.{number-rises}
use Rattle.market_model.specs.declared.event.Event.{Event}
use Rattle.market_model.specs.declared.setup.Setup.{Setup}
use Rattle.market_model.specs.History.{and_then}
use Rattle.market_model.specs.Lines.{line}
use Rattle.market_model.specs.Orders.{Placed, Standing, entered_by, filled, left, placed, price_now, standing}
use Rattle.market_model.specs.WellFormed.{FitAfter}
use Rattle.laws_of_market.proofs.Lines.{IsIn-line}
use Rattle.laws_of_market.proofs.Placed.{all_are_sound}
use Rattle.laws_of_market.proofs.Soundness.{order_fault-none, peak-some}
use Rattle.laws_of_market.proofs.States.{filled-more, left-more}
use Rattle.laws_of_market.proofs.Trades.{IsInLine, IsOpen}

-- ---- prices

not_less : (a b : ℤ) → b ≤ℤ a → is_lt (int_cmp a b) ≡ false
not_less a b least = go (int_cmp a b) (int_ranks a b)
  where
    go : (r : Ordering) → MatchOrdering r (a <ℤ b) (a ≡ b) (b <ℤ a) → is_lt r ≡ false
    go Less is = absurd (grind (arith, is, least))
    go Equal is = refl
    go Greater is = refl

-- no price is better than itself
own-price : (side : Side) (price : Price) → prefers side price price ≡ false
own-price Buy price = not_less price.0 price.0 (grind arith)
own-price Sell price = not_less price.0 price.0 (grind arith)

-- a later peak has no better price
pub later-price : (side : Side) (price : Price) (delta number later : ℕ) → number ≤ later
    → prefers side (peak_price side price delta later) (peak_price side price delta number) ≡ false
later-price Buy price delta number later least =
    not_less (price.0 -ℤ pos (delta * number)) (price.0 -ℤ pos (delta * later)) (lower price.0 (delta * number) (delta * later) (mul-le-mul_left delta least))
  where
    lower : (p : ℤ) (less more : ℕ) → less ≤ more → (p -ℤ pos more) ≤ℤ (p -ℤ pos less)
    lower p less more h = grind (arith, h)
later-price Sell price delta number later least =
    not_less (price.0 +ℤ pos (delta * later)) (price.0 +ℤ pos (delta * number)) (higher price.0 (delta * number) (delta * later) (mul-le-mul_left delta least))
  where
    higher : (p : ℤ) (less more : ℕ) → less ≤ more → (p +ℤ pos less) ≤ℤ (p +ℤ pos more)
    higher p less more h = grind (arith, h)

-- an order of which more is filled has no better price
price-filled : (order : Order) → order_fault order ≡ None → (filled more : ℕ) → filled ≤ more → prefers order.side (price_now order more) (price_now order filled) ≡ false
price-filled order sound filled more least = go order.kind refl
  where
    go : (k : Kind) → order.kind ≡ k → prefers order.side (price_now order more) (price_now order filled) ≡ false
    go kind.Limit is = rw is (own-price order.side order.price)
    go kind.Ioc is = rw is (own-price order.side order.price)
    go kind.Fok is = rw is (own-price order.side order.price)
    go (kind.Iceberg peak delta) is =
        let rises = number-rises peak.0 filled more (peak-some order peak delta is (order_fault-none order sound).peaks) least in
        rw is (later-price order.side order.price delta (peak_number peak.0 filled) (peak_number peak.0 more) rises)

-- ---- orders

-- an order that stood in a line of some events for one that stands there now
pub record Stood (events : List Event) (contract : Contract) (side : Side) (now : Standing) : Type 0 where
  pub old : Standing
  pub is_in : IsIn old (line events contract side)
  pub named : old.name ≡ now.name
  pub zone : now.order.zone ≡ old.order.zone
  pub no_better : prefers side now.price old.price ≡ false

-- one that an event does not enter stood there before it
pub stood : (setup : Setup) (events : List Event) → FitAfter setup [] events → (e : Event) (contract : Contract) (side : Side) (now : Standing)
    → (in_line : IsInLine (and_then events e) contract side now) → IsIn in_line.order (placed events) → entered_by in_line.order.name e ≡ 0
    → Stood events contract side now
stood setup events fit e contract side now in_line there none = record {
  old = standing events order;
  is_in =
      subst (λ c. IsIn (standing events order) (line events c side)) in_line.of_contract
      (subst (λ s. IsIn (standing events order) (line events order.order.contract s)) in_line.on_side (IsIn-line events order opened));
  named = sym (ap (λ (s : Standing). s.name) in_line.is);
  zone = ap (λ (s : Standing). s.order.zone) in_line.is;
  no_better =
      subst (λ s. prefers s now.price (price_now order.order (filled events order.name)) ≡ false) in_line.on_side
      (subst (λ p. prefers order.order.side p (price_now order.order (filled events order.name)) ≡ false) (sym (ap (λ (s : Standing). s.price) in_line.is)) falls);
}
  where
    order : Placed
    order = in_line.order

    opened : IsOpen events order
    opened =
        let lower = left-more events e order.name none in
        let some : 0 < left (and_then events e) order.name = ltb-true 0 (left (and_then events e) order.name) in_line.is_open.is_left in
        record { is_placed = there; is_left = lt-ltb 0 (left events order.name) (omega (arith, lower, some)) }

    falls : prefers order.order.side (price_now order.order (filled (and_then events e) order.name)) (price_now order.order (filled events order.name)) ≡ false
    falls =
        let more = filled-more events e order.name in
        price-filled order.order ((all_are_sound setup events fit).orders order there).sound (filled events order.name) (filled (and_then events e) order.name) (omega (arith, more))
