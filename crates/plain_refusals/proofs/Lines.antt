-- The lines of a legal history.
use Rattle.std.proofs.Common.{◌+◌, ◌≤◌, cond, List, [], ◌∷◌, filter, length, map, sym, subst, arith}
use Rattle.std.proofs.lemmas.List.{length-map}
use Rattle.std.proofs.lemmas.List.Sums.{count_by-le-length, length-filter}
use Rattle.std.specs.List.{cons_option}
use Rattle.order_kinds.specs.declared.contract.Contract.{Contract}
use Rattle.order_kinds.specs.declared.side.Side.{Side}
use Rattle.zone_graph.specs.Route.{IsIn}
use Rattle.zone_graph.proofs.Membership.{from_filter, from_map}
use Rattle.market_model.specs.declared.event.Event.{Event}
use Rattle.market_model.specs.declared.event.Event.TheVariants as event
use Rattle.market_model.specs.History.{entered_count, enters}
use Rattle.market_model.specs.Lines.{line, priority_cmp, stands_in}
use Rattle.market_model.specs.Orders.{Placed, Standing, filled, left, placed, placed_by, standing}
use Rattle.laws_of_market.proofs.Lefts.{left-most}
use Rattle.laws_of_market.proofs.Balances.{covered}
use Rattle.laws_of_market.proofs.Counts.{length-in_order}
use Rattle.laws_of_market.proofs.Members.{from_in_order}
use Rattle.laws_of_market.proofs.Names.{names-once}
use Rattle.laws_of_market.proofs.Placed.{all_are_sound}
use Rattle.laws_of_market.proofs.Unique.{entered-order}
use Rattle.plain_orders.specs.Histories.{IsSomeHistory}
use Rattle.plain_refusals.specs.Crossing.{AreSound, IsSound}
use Rattle.zone_graph.specs.InOrder.{in_order}

-- the orders of a line are sound
pub line-sound : (events : List Event) (contract : Contract) (side : Side) → IsSomeHistory events → AreSound (line events contract side)
unfolding line
line-sound events contract side history = record { each = each }
  where
    part : (order : Placed) → IsIn order (placed events) → filled events order.name + left events order.name ≤ order.order.quantity.0
    part order i =
        let all = entered-order events order (names-once history.setup events history.fit) i in
        let covers = covered history.setup events history.fit order.name in
        omega (arith, all, covers)

    each : (order : Standing) → IsIn order (in_order (priority_cmp side) (map (standing events) (filter (stands_in events contract side) (placed events)))) → IsSound order
    each order i =
        let listed = from_in_order (priority_cmp side) order (map (standing events) (filter (stands_in events contract side) (placed events))) i in
        let from = from_map (standing events) order (filter (stands_in events contract side) (placed events)) listed in
        let there = from_filter (stands_in events contract side) from.0 (placed events) from.1 in
        let sound = (all_are_sound history.setup events history.fit).orders from.0 there.0 in
        subst (λ (s : Standing). IsSound s) (sym from.2) (record {
          numbers = record { no_fault = sound.sound };
          most = left-most history.setup events history.fit from.0.name;
          within = part from.0 there.0;
        })

-- no more orders are placed than orders and blocks entered
placed-one : (e : Event) (rest : List Placed) (kept : List Event) → length rest ≤ length kept → length (cons_option (placed_by e) rest) ≤ length (cond (enters e) (e ∷ kept) kept)
placed-one (event.Entered name caller order) rest kept h = omega arith
placed-one (event.EnteredBlock name caller order) rest kept h = omega arith
placed-one (event.Leg contract leg) rest kept h = omega arith
placed-one (event.BlockLeg first last leg) rest kept h = omega arith
placed-one (event.Granted arc first last lots) rest kept h = omega arith
placed-one (event.Offered arc first last lots) rest kept h = omega arith
placed-one (event.Halted border first last) rest kept h = omega arith
placed-one (event.Resumed border first last) rest kept h = omega arith
placed-one (event.Gated hour phase) rest kept h = omega arith
placed-one (event.Withdrawn name lots) rest kept h = omega arith
placed-one (event.Reduced name by) rest kept h = omega arith

placed-few : (events : List Event) → length (placed events) ≤ length (filter enters events)
placed-few [] = omega arith
placed-few (e ∷ events) = placed-one e (placed events) (filter enters events) (placed-few events)

-- so there are few in a line
pub line-few : (events : List Event) (contract : Contract) (side : Side) → length (line events contract side) ≤ entered_count events
unfolding line
line-few events contract side =
    let kept = filter (stands_in events contract side) (placed events) in
    omega (
      arith,
      length-in_order (priority_cmp side) (map (standing events) kept),
      length-map kept (standing events),
      length-filter (stands_in events contract side) (placed events),
      count_by-le-length (stands_in events contract side) (placed events),
      placed-few events,
      length-filter enters events,
    )
