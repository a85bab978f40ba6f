-- Where the best prices do not cross there is no leg.
use Rattle.std.proofs.Common.{◌≡◌, ◌∙◌, ℤ, ◌≤ℤ◌, ◌<ℤ◌, ◌&&◌, ◌⊎◌, Bool, true, false, List, [], ◌∷◌, fold, filter, map, int_cmp, is_lt, Ordering, Option, Some, None, if◌then◌else◌, refl, sym, ap, subst, inl, inr, arith}
use Rattle.std.proofs.lemmas.Bool.{true≢false}
use Rattle.std.proofs.lemmas.Int.{ints}
use Rattle.std.specs.Cmp.{int_ranks}
use Rattle.std.specs.List.{find, list_any}
use Rattle.std.specs.Option.{option_and_then}
use Rattle.std.specs.Ordering.{MatchOrdering, ordering_then}
use Rattle.std.specs.declared.cmp.Ordering.TheVariants.{Less, Equal, Greater}
use Rattle.order_kinds.specs.declared.contract.Contract.{Contract}
use Rattle.order_kinds.specs.declared.price.Price.{Price}
use Rattle.order_kinds.specs.declared.side.Side.{Side}
use Rattle.order_kinds.specs.declared.side.Side.TheVariants.{Buy, Sell}
use Rattle.order_kinds.specs.Side.{crosses, opposite}
use Rattle.zone_graph.specs.Graph.{Graph}
use Rattle.zone_graph.specs.Reach.{reaches}
use Rattle.zone_graph.specs.Route.{IsIn}
use Rattle.market_model.specs.declared.event.Event.{Event}
use Rattle.market_model.specs.Lines.{buyer_zone, can_trade, line, partner, priority_cmp, rooms_for, seller_zone, stands_in, time_cmp}
use Rattle.market_model.specs.Orders.{Standing, placed, standing}
use Rattle.market_model.specs.Sweep.{leg_in, leg_of_buy, resting_trade}
use Rattle.laws_of_market.proofs.Trades.{from_line}
use Rattle.plain_orders.specs.Listed.{first_price}
use Rattle.plain_matching.specs.Over.{IsBestOfSells, best_cross, crosses_best, crosses_price, leg_with_partner}
use Rattle.plain_matching.proofs.Here.{no_partner-leg}
use Rattle.plain_matching.proofs.Places.{find-nothing, first_answer-nothing}
use Rattle.plain_matching.proofs.Zones.{no_partner}
use Rattle.zone_graph.specs.InOrder.{put_in_order}
use Rattle.zone_graph.proofs.InOrder.{from_put_in_order}

-- what an order of two numbers, and then by something else, says of them
first-least : (r later : Ordering) (x y : ℤ) → MatchOrdering r (x <ℤ y) (x ≡ y) (y <ℤ x) → is_lt (ordering_then r later) ≡ true → x ≤ℤ y
first-least Less later x y m h = omega (arith, ints, m)
first-least Equal later x y m h = omega (arith, ints, m)
first-least Greater later x y m h = absurd (true≢false (sym h))

first-most : (r later : Ordering) (x y : ℤ) → MatchOrdering r (x <ℤ y) (x ≡ y) (y <ℤ x) → is_lt (ordering_then r later) ≡ false → y ≤ℤ x
first-most Less later x y m h = absurd (true≢false h)
first-most Equal later x y m h = omega (arith, ints, m)
first-most Greater later x y m h = omega (arith, ints, m)

-- a price of a side is at least as good as another
abbrev AsGood : Side → (one other : Price) → Type 0
AsGood Buy one other = other.0 ≤ℤ one.0
AsGood Sell one other = one.0 ≤ℤ other.0

itself : (side : Side) (price : Price) → AsGood side price price
itself Buy price = omega (arith, ints)
itself Sell price = omega (arith, ints)

then-itself : (side : Side) (one best other : Price) → AsGood side one best → AsGood side best other → AsGood side one other
then-itself Buy one best other more less = omega (arith, ints, more, less)
then-itself Sell one best other more less = omega (arith, ints, more, less)

-- of two orders the one that goes first has a price at least as good
ahead : (side : Side) (a b : Standing) → is_lt (priority_cmp side a b) ≡ true → AsGood side a.price b.price
ahead Buy a b h = first-least (int_cmp b.price.0 a.price.0) (time_cmp a b) b.price.0 a.price.0 (int_ranks b.price.0 a.price.0) h
ahead Sell a b h = first-least (int_cmp a.price.0 b.price.0) (time_cmp a b) a.price.0 b.price.0 (int_ranks a.price.0 b.price.0) h

behind : (side : Side) (a b : Standing) → is_lt (priority_cmp side a b) ≡ false → AsGood side b.price a.price
behind Buy a b h = first-most (int_cmp b.price.0 a.price.0) (time_cmp a b) b.price.0 a.price.0 (int_ranks b.price.0 a.price.0) h
behind Sell a b h = first-most (int_cmp a.price.0 b.price.0) (time_cmp a b) a.price.0 b.price.0 (int_ranks a.price.0 b.price.0) h

-- no order has a better price than the first
record IsTop (side : Side) (top : Standing) (orders : List Standing) : Type 0 where
  each : (order : Standing) → IsIn order orders → AsGood side top.price order.price

abbrev IsLed : Side → List Standing → Type 0
IsLed side [] = Unit {0}
IsLed side (top ∷ rest) = IsTop side top (top ∷ rest)

same-price : (side : Side) (a b : Standing) → a ≡ b → AsGood side b.price a.price
same-price side a b e = subst (λ (s : Standing). AsGood side s.price a.price) e (itself side a.price)

put-led : (side : Side) (orders : List Standing) (order : Standing) → IsLed side orders → IsLed side (put_in_order (priority_cmp side) orders order)
put-led side [] order led = record { each = λ other i. elim i [ inl e ↦ same-price side other order e | inr j ↦ absurd j ] }
put-led side (top ∷ rest) order led = go (is_lt (priority_cmp side order top)) refl
  where
    before : AsGood side top.price order.price → (other : Standing) → (other ≡ order) ⊎ IsIn other rest → AsGood side top.price other.price
    before less other i = elim i [
      | inl e ↦ subst (λ (s : Standing). AsGood side top.price s.price) (sym e) less
      | inr j ↦ led.each other (inr j)
    ]

    go : (b : Bool) → is_lt (priority_cmp side order top) ≡ b
        → IsLed side (if b then (order ∷ top ∷ rest) else (top ∷ put_in_order (priority_cmp side) rest order))
    go true is = record {
      each = λ other i. elim i [
        | inl e ↦ same-price side other order e
        | inr j ↦ then-itself side order.price top.price other.price (ahead side order top is) (led.each other j)
      ];
    }
    go false is = record {
      each = λ other i. elim i [
        | inl e ↦ same-price side other top e
        | inr j ↦ before (behind side order top is) other (from_put_in_order (priority_cmp side) other rest order j)
      ];
    }

fold-led : (side : Side) (orders more : List Standing) → IsLed side orders → IsLed side (fold (put_in_order (priority_cmp side)) orders more)
fold-led side orders [] led = led
fold-led side orders (order ∷ more) led = fold-led side (put_in_order (priority_cmp side) orders order) more (put-led side orders order led)

line-led : (events : List Event) (contract : Contract) (side : Side) → IsLed side (line events contract side)
unfolding line
line-led events contract side = fold-led side [] (map (standing events) (filter (stands_in events contract side) (placed events))) tt

-- ---- prices that do not cross

-- a price that does not cross the best one crosses none
no-better : (side : Side) (own best other : Price) → AsGood (opposite side) best other → crosses side own best ≡ false → crosses side own other ≡ false
no-better Buy own best other good apart = sym (omega (arith, ints, good, apart))
no-better Sell own best other good apart = sym (omega (arith, ints, good, apart))

-- nor does one that is no better
no-worse : (side : Side) (best own other : Price) → AsGood side best own → crosses side best other ≡ false → crosses side own other ≡ false
no-worse Buy best own other good apart = sym (omega (arith, ints, good, apart))
no-worse Sell best own other good apart = sym (omega (arith, ints, good, apart))

none-of : {X : Type 0} (p : X → Bool) (xs : List X) → ((x : X) → IsIn x xs → p x ≡ false) → list_any p xs ≡ false
none-of p [] none = refl
none-of p (x ∷ xs) none = rw (none x (inl refl)) (none-of p xs (λ y i. none y (inr i)))

-- an order that does not cross the best price of a line crosses none of it
crosses-none : (own : Standing) (others : List Standing) → IsLed (opposite own.order.side) others → crosses_best own (first_price others) ≡ false
    → list_any (crosses_price own) others ≡ false
crosses-none own [] led apart = refl
crosses-none own (top ∷ rest) led apart =
    none-of (crosses_price own) (top ∷ rest) (λ other i. no-better own.order.side own.price top.price other.price (led.each other i) apart)

-- the first price of the sells of a contract is the best one
pub best-sell : (events : List Event) (contract : Contract) → IsBestOfSells (first_price (line events contract Sell)) (line events contract Sell)
best-sell events contract = record {
  none = λ buy side apart.
      crosses-none buy (line events contract Sell) (subst (λ s. IsLed (opposite s) (line events contract Sell)) (sym side) (line-led events contract Sell)) apart;
}

-- ---- no leg

pub is-buy : (events : List Event) (contract : Contract) (buy : Standing) → IsIn buy (line events contract Buy) → buy.order.side ≡ Buy
is-buy events contract buy i =
    let in_line = from_line events contract Buy buy i in ap (λ (s : Standing). s.order.side) in_line.is ∙ in_line.on_side

-- a buy of the line that crosses no sell has no leg
no_leg_of_buy : (graph : Graph) (events : List Event) (contract : Contract) (buy : Standing)
    → IsIn buy (line events contract Buy) → list_any (crosses_price buy) (line events contract Sell) ≡ false → leg_of_buy graph events buy ≡ None
unfolding partner
no_leg_of_buy graph events contract buy i apart =
    let in_line = from_line events contract Buy buy i in
    let own : buy.order.contract ≡ contract = ap (λ (s : Standing). s.order.contract) in_line.is ∙ in_line.of_contract in
    let side : buy.order.side ≡ Buy = is-buy events contract buy i in
    let sells : line events buy.order.contract (opposite buy.order.side) ≡ line events contract Sell =
    ap (λ c. line events c (opposite buy.order.side)) own ∙ ap (λ s. line events contract (opposite s)) side in
    let none : find (can_trade graph (rooms_for events buy) buy) (line events contract Sell) ≡ None =
    find-nothing (can_trade graph (rooms_for events buy) buy) (crosses_price buy) (line events contract Sell)
    (λ other no. ap (λ b. b && reaches graph (rooms_for events buy) (seller_zone buy other) (buyer_zone buy other)) no) apart in
    ap (λ l. option_and_then (resting_trade graph events buy) (find (can_trade graph (rooms_for events buy) buy) l)) sells
    ∙ ap (option_and_then (resting_trade graph events buy)) none

-- where the best prices do not cross, no buy crosses the best sell
no-buy : (buys : List Standing) (sell : Option Price) → IsLed Buy buys → best_cross (first_price buys) sell ≡ false
    → (buy : Standing) → IsIn buy buys → buy.order.side ≡ Buy → crosses_best buy sell ≡ false
no-buy buys None led apart buy i side = refl
no-buy [] (Some sell) led apart buy i side = absurd i
no-buy (top ∷ rest) (Some sell) led apart buy i side =
    ap (λ s. crosses s buy.price sell) side ∙ no-worse Buy top.price buy.price sell (led.each buy i) apart

-- where the best prices of a contract do not cross there is no leg
pub no_crossing : (graph : Graph) (events : List Event) (contract : Contract) (buy sell : Option Price) → buy ≡ first_price (line events contract Buy)
    → sell ≡ first_price (line events contract Sell) → best_cross buy sell ≡ false → leg_in graph events contract ≡ None
no_crossing graph events contract buy sell best_buy best_sell apart =
    first_answer-nothing (leg_of_buy graph events) (line events contract Buy)
    (λ own i. let side = is-buy events contract own i in
    no_leg_of_buy graph events contract own i
    ((best-sell events contract).none own side
    (no-buy (line events contract Buy) (first_price (line events contract Sell)) (line-led events contract Buy)
    (ap (λ b. best_cross b (first_price (line events contract Sell))) (sym best_buy) ∙ ap (best_cross buy) (sym best_sell) ∙ apart) own i side)))

-- an order that does not cross the best price of the other side has no leg
pub apart-leg : (graph : Graph) (events : List Event) (own : Standing) (best : Option Price)
    → best ≡ first_price (line events own.order.contract (opposite own.order.side)) → crosses_best own best ≡ false
    → None ≡ leg_with_partner graph events own
unfolding partner
apart-leg graph events own best is apart =
    no_partner-leg graph events own
    (no_partner graph (rooms_for events own) (line events own.order.contract (opposite own.order.side)) own
    (crosses-none own (line events own.order.contract (opposite own.order.side)) (line-led events own.order.contract (opposite own.order.side))
    (ap (crosses_best own) (sym is) ∙ apart)))
