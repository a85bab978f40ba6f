-- What crosses of the market's lines, from the records of their orders, and what an entry leaves of the
-- bound.
use Rattle.std.proofs.Common.{◌≡◌, ◌∙◌, inl, inr, ℕ, zero, suc, ◌+◌, ◌*◌, ◌≤◌, Bool, List, [], ◌∷◌, filter, flat_map, length, map, sum_by, refl, sym, ap, ap₂, subst, arith}
use Rattle.std.proofs.lemmas.List.Sums.{count_by-le-length, length-filter, sum_by-cons}
use Rattle.std.specs.List.{range_with_len}
use Rattle.order_kinds.specs.declared.order.Kind.{Kind}
use Rattle.order_kinds.specs.declared.order.Kind.TheVariants as kind
use Rattle.order_kinds.specs.declared.order.Order.{Order}
use Rattle.order_kinds.specs.declared.side.Side.{Side}
use Rattle.order_kinds.specs.declared.side.Side.TheVariants.{Buy, Sell}
use Rattle.order_kinds.specs.Side.{opposite}
use Rattle.order_kinds.specs.Period.{contract_quarters}
use Rattle.zone_graph.specs.declared.route.Arc.{Arc}
use Rattle.zone_graph.specs.Graph.{Graph, HasArc, arcs_of, arcs_over, border_count}
use Rattle.zone_graph.specs.Pour.{lots_if}
use Rattle.zone_graph.specs.Reach.{enters, leaves}
use Rattle.zone_graph.specs.Rooms.{room_of}
use Rattle.zone_graph.specs.Route.{IsIn, has}
use Rattle.zone_graph.proofs.Membership.{from_filter}
use Rattle.zone_graph.proofs.Routes.{from_arcs_of}
use Rattle.cut_proof.proofs.ArcSums.{sum_passing}
use Rattle.market_model.specs.declared.event.Event.{Event}
use Rattle.market_model.specs.Certificate.{crossing_lots, room_across}
use Rattle.market_model.specs.Lines.{line}
use Rattle.market_model.specs.Orders.{Placed, Standing, standing}
use Rattle.market_model.specs.Room.{room}
use Rattle.laws_of_market.proofs.Trades.{from_line}
use Rattle.laws_of_books.specs.BookOf.{resting_line, resting_of}
use Rattle.desk_entering.specs.CertificateLaws.{BoundsAreThoseOfTheLine, HaveAtMost, RecordsTellWhatCrosses}
use Rattle.desk_entering.specs.Crossing.{crossing_in, crossing_of, crossing_peaks, lots_inside}
use Rattle.desk_entering.proofs.Crosses.{inside-sum}

-- what crosses of the record of an order as it stands
record-crosses-by : (taker : Order) (events : List Event) (order : Placed) (given : Kind) → let own : Placed = record order { order = record order.order { kind = given } } in
    crossing_of taker (resting_of (standing events own)) ≡ crossing_lots taker (standing events own)
unfolding crossing_peaks
record-crosses-by taker events order kind.Limit = refl
record-crosses-by taker events order kind.Ioc = refl
record-crosses-by taker events order kind.Fok = refl
record-crosses-by taker events order (kind.Iceberg peak delta) = refl

record-crosses : (taker : Order) (events : List Event) (order : Placed) → crossing_of taker (resting_of (standing events order)) ≡ crossing_lots taker (standing events order)
record-crosses taker events order = record-crosses-by taker events order order.order.kind

-- so of the records of a line
records-sum : (taker : Order) (zones : List ℕ) (events : List Event) (orders : List Standing) → ((order : Standing) → IsIn order orders → (placed : Placed) × (order ≡ standing events placed))
    → sum_by (lots_inside taker zones) (map resting_of orders) ≡ sum_by (λ (order : Standing). lots_if (has order.order.zone zones) (crossing_lots taker order)) orders
records-sum taker zones events [] each = refl
records-sum taker zones events (order ∷ orders) each =
    let own = each order (inl refl) in
    let here : crossing_of taker (resting_of order) ≡ crossing_lots taker order =
    subst (λ (s : Standing). crossing_of taker (resting_of s) ≡ crossing_lots taker s) (sym own.1) (record-crosses taker events own.0) in
    omega (
      arith,
      sum_by-cons (lots_inside taker zones) (resting_of order) (map resting_of orders),
      sum_by-cons (λ (s : Standing). lots_if (has s.order.zone zones) (crossing_lots taker s)) order orders,
      ap (lots_if (has order.order.zone zones)) here,
      records-sum taker zones events orders (λ s i. each s (inr i)),
    )

pub records-tell : RecordsTellWhatCrosses
records-tell events order zones =
    let side : Side = opposite order.side in
    inside-sum order zones (resting_line events order.contract side)
    ∙ records-sum order zones events (line events order.contract side) (λ s i. let there = from_line events order.contract side s i in (there.order, there.is))
    ∙ sym (sum_passing (λ (s : Standing). has s.order.zone zones) (crossing_lots order) (line events order.contract side))

-- ---- rooms that agree on the arcs of a graph

sum-same : {X : Type 0} (f g : X → ℕ) (xs : List X) → ((x : X) → IsIn x xs → f x ≡ g x) → sum_by f xs ≡ sum_by g xs
sum-same f g [] same = refl
sum-same f g (x ∷ xs) same =
    omega (arith, sum_by-cons f x xs, sum_by-cons g x xs, same x (inl refl), sum-same f g xs (λ y i. same y (inr i)))

across-same : (graph : Graph) (made rooms : Arc → ℕ) → ((arc : Arc) → HasArc graph arc → made arc ≡ rooms arc) → (side : Side) (zones : List ℕ)
    → room_across graph made side zones ≡ room_across graph rooms side zones
across-same graph made rooms same side zones = go side
  where
    passing : (p : Arc → Bool) → sum_by made (filter p (arcs_of graph)) ≡ sum_by rooms (filter p (arcs_of graph))
    passing p = sum-same made rooms (filter p (arcs_of graph)) (λ arc i. same arc (from_arcs_of graph arc (from_filter p arc (arcs_of graph) i).0))

    go : (s : Side) → room_across graph made s zones ≡ room_across graph rooms s zones
    go Buy = passing (enters graph zones)
    go Sell = passing (leaves graph zones)

pub bounds-are : BoundsAreThoseOfTheLine
bounds-are graph rooms line events order zones same_line same_rooms =
    ap₂ (λ inside across. inside + across)
    (ap (crossing_in order zones) same_line ∙ records-tell events order zones)
    (across-same graph (room_of rooms) (room events (contract_quarters order.contract)) same_rooms order.side zones)

-- ---- how much room there can be

sum-most : {X : Type 0} (f : X → ℕ) (most : ℕ) (xs : List X) → ((x : X) → IsIn x xs → f x ≤ most) → sum_by f xs ≤ length xs * most
sum-most f most [] each = omega arith
sum-most f most (x ∷ xs) each =
    let one = each x (inl refl) in
    let rest = sum-most f most xs (λ y i. each y (inr i)) in
    let sum = sum_by-cons f x xs in
    let product : suc (length xs) * most ≡ most + length xs * most = grind arith in
    omega arith

arcs-length : (borders : List ℕ) → length (flat_map arcs_over borders) ≡ length borders * 2
arcs-length [] = refl
arcs-length (border ∷ borders) = let rest = arcs-length borders in omega arith

range-length : (a n : ℕ) → length (range_with_len a n) ≡ n
range-length a zero = refl
range-length a (suc n) = let rest = range-length (a + 1) n in omega arith

pub across-most : (graph : Graph) (rooms : Arc → ℕ) (side : Side) (zones : List ℕ) → border_count graph ≤ 128 → HaveAtMost 4294967295 graph rooms
    → room_across graph rooms side zones ≤ 256 * 4294967295
across-most graph rooms side zones few most = go side
  where
    passing : (p : Arc → Bool) → sum_by rooms (filter p (arcs_of graph)) ≤ 256 * 4294967295
    passing p =
        let sum = sum-most rooms 4294967295 (filter p (arcs_of graph)) (λ arc i. most arc (from_arcs_of graph arc (from_filter p arc (arcs_of graph) i).0)) in
        let kept = length-filter p (arcs_of graph) in
        let passes = count_by-le-length p (arcs_of graph) in
        let arcs = arcs-length (range_with_len 0 (border_count graph)) in
        let borders = range-length 0 (border_count graph) in
        omega arith

    go : (s : Side) → room_across graph rooms s zones ≤ 256 * 4294967295
    go Buy = passing (enters graph zones)
    go Sell = passing (leaves graph zones)
