-- The zones in reach and the room across borders, where the rooms of the graph's arcs are the same.
use Rattle.std.proofs.Common.{◌≡◌, ℕ, suc, zero, ◌+◌, ◌*◌, ◌≤◌, Bool, List, [], ◌∷◌, filter, flat_map, length, sum_by, refl, arith}
use Rattle.std.proofs.lemmas.List.Sums.{count_by-le-length, length-filter, sum_by-cons}
use Rattle.std.specs.List.{range_with_len}
use Rattle.order_kinds.specs.declared.contract.Quarter.{Quarter}
use Rattle.order_kinds.specs.declared.side.Side.{Side}
use Rattle.order_kinds.specs.declared.side.Side.TheVariants.{Buy, Sell}
use Rattle.zone_graph.specs.declared.route.Arc.{Arc}
use Rattle.zone_graph.specs.Graph.{Graph, arcs_of, arcs_over, border_count}
use Rattle.zone_graph.specs.Reach.{enters, leaves}
use Rattle.market_model.specs.declared.event.Event.{Event}
use Rattle.market_model.specs.Certificate.{room_across}
use Rattle.market_model.specs.Room.{room}
use Rattle.market_model.specs.WellFormed.{IsLegalOver}
use Rattle.laws_of_market.proofs.MostRoom.{room-most}
use Rattle.laws_of_market.proofs.Uses.{within_offers}

-- ---- how much room there can be

sum-most : {X : Type 0} (f : X → ℕ) (most : ℕ) (xs : List X) → ((x : X) → f x ≤ most) → sum_by f xs ≤ length xs * most
sum-most f most [] each = omega arith
sum-most f most (x ∷ xs) each =
    let one = each x in
    let rest = sum-most f most xs each in
    let sum = sum_by-cons f x xs in
    let product : suc (length xs) * most ≡ most + length xs * most = grind arith in
    omega arith

-- two arcs for each border
arcs-length : (borders : List ℕ) → length (flat_map arcs_over borders) ≡ length borders * 2
arcs-length [] = refl
arcs-length (border ∷ borders) = let rest = arcs-length borders in omega arith

range-length : (a n : ℕ) → length (range_with_len a n) ≡ n
range-length a zero = refl
range-length a (suc n) = let rest = range-length (a + 1) n in omega arith

crossing-most : (graph : Graph) (rooms : Arc → ℕ) (p : Arc → Bool) → border_count graph ≤ 128 → ((arc : Arc) → rooms arc ≤ 2000000)
    → sum_by rooms (filter p (arcs_of graph)) ≤ 256 * 2000000
crossing-most graph rooms p few each =
    let sum = sum-most rooms 2000000 (filter p (arcs_of graph)) each in
    let kept = length-filter p (arcs_of graph) in
    let passing = count_by-le-length p (arcs_of graph) in
    let arcs = arcs-length (range_with_len 0 (border_count graph)) in
    let borders = range-length 0 (border_count graph) in
    omega arith

pub across-most : (graph : Graph) (events : List Event) (quarters : List Quarter) (side : Side) (zones : List ℕ) → border_count graph ≤ 128 → IsLegalOver graph events
    → room_across graph (room events quarters) side zones ≤ 256 * 2000000
across-most graph events quarters side zones few legal = by side
  where
    each : (arc : Arc) → room events quarters arc ≤ 2000000
    each arc = room-most events (within_offers legal.setup events legal.fit) quarters arc

    by : (side : Side) → room_across graph (room events quarters) side zones ≤ 256 * 2000000
    by Buy = crossing-most graph (room events quarters) (enters graph zones) few each
    by Sell = crossing-most graph (room events quarters) (leaves graph zones) few each
