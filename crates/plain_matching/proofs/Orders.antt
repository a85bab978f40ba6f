-- What is known of the orders of an hour in a legal history, and of the lines that they make.
use Rattle.std.proofs.Common.{◌≡◌, ◌∙◌, ℕ, true, List, filter, nat_lt, Some, sym, ap, subst, eq-eqb}
use Rattle.std.specs.List.{find}
use Rattle.std.specs.Option.{option_map}
use Rattle.std.proofs.lemmas.Bool.{and_parts}
use Rattle.order_kinds.specs.declared.contract.Contract.{Contract}
use Rattle.order_kinds.specs.declared.order.Order.{Order}
use Rattle.order_kinds.specs.declared.order.OrderName.{OrderName}
use Rattle.order_kinds.specs.declared.side.Side.{Side}
use Rattle.order_kinds.specs.Contract.{is_known}
use Rattle.order_kinds.specs.Same.{same_name}
use Rattle.order_kinds.specs.Side.{opposite}
use Rattle.zone_graph.specs.Graph.{Graph, HasZone}
use Rattle.zone_graph.specs.Route.{IsIn}
use Rattle.zone_graph.proofs.Membership.{from_filter, from_map}
use Rattle.zone_graph.proofs.Finding.{find-map, from_find}
use Rattle.market_model.specs.declared.event.Event.{Event}
use Rattle.market_model.specs.Lines.{line}
use Rattle.market_model.specs.Orders.{Placed, Standing, left, placed, standing}
use Rattle.market_model.specs.Taking.{standing_order}
use Rattle.market_model.specs.WellFormed.{IsLegalOver}
use Rattle.laws_of_market.proofs.Placed.{all_are_sound}
use Rattle.laws_of_market.proofs.Tests.{same_name-eq}
use Rattle.laws_of_market.proofs.Trades.{from_line}
use Rattle.laws_of_market.proofs.Restrict.{find-filter}
use Rattle.plain_orders.specs.Listed.{is_order_of, line_of, open_orders, stands_open}
use Rattle.plain_orders.proofs.LineLaws.{line-of_orders}
use Rattle.plain_matching.specs.Over.{AreInZones, is_open_as, other_line}

-- who is open under a name is found among the orders of the name's hour
pub open_as-is : (events : List Event) (name : OrderName) → find (is_open_as name) (open_orders events name.hour) ≡ standing_order events name
open_as-is events name =
    find-map (is_open_as name) (standing events) (filter (stands_open events) (filter (is_order_of name.hour) (placed events)))
    ∙ ap (option_map (standing events))
    (find-filter (λ order. is_open_as name (standing events order)) (stands_open events) (filter (is_order_of name.hour) (placed events))
    (λ order i open_here. (and_parts (same_name order.name name) (nat_lt 0 (left events order.name)) open_here).1)
    ∙ find-filter (λ order. is_open_as name (standing events order)) (is_order_of name.hour) (placed events) in_hour)
  where
    in_hour : (order : Placed) → IsIn order (placed events) → is_open_as name (standing events order) ≡ true → is_order_of name.hour order ≡ true
    in_hour order i open_here =
        let both = and_parts (same_name order.name name) (nat_lt 0 (left events order.name)) open_here in
        eq-eqb order.name.hour name.hour (ap (λ (n : OrderName). n.hour) (same_name-eq order.name name both.0))

-- an order of an hour: its zone and its part are there, and it is named by its contract's hour
pub record IsSoundOrder (graph : Graph) (own : Standing) : Type 0 where
  pub in_zone : HasZone graph own.order.zone
  pub in_part : is_known own.order.contract.part ≡ true
  pub named : own.name.hour ≡ own.order.contract.hour

-- of what is known of an order that entered
of_placed : (graph : Graph) (events : List Event) (legal : IsLegalOver graph events) (order : Placed) → IsIn order (placed events) → IsSoundOrder graph (standing events order)
of_placed graph events legal order i =
    let sound = (all_are_sound legal.setup events legal.fit).orders order i in
    record { in_zone = subst (λ g. HasZone g order.order.zone) (sym legal.over) sound.in_zone; in_part = sound.in_part; named = sound.named }

pub order-sound : (graph : Graph) (events : List Event) (hour : ℕ) (own : Standing) → IsLegalOver graph events → IsIn own (open_orders events hour) → IsSoundOrder graph own
order-sound graph events hour own legal i =
    let stands = from_map (standing events) own (filter (stands_open events) (filter (is_order_of hour) (placed events))) i in
    let opened = from_filter (stands_open events) stands.0 (filter (is_order_of hour) (placed events)) stands.1 in
    let there = from_filter (is_order_of hour) stands.0 (placed events) opened.0 in
    subst (λ s. IsSoundOrder graph s) (sym stands.2) (of_placed graph events legal stands.0 there.0)

-- the one that is found is of the name's hour
pub record IsFoundAs (graph : Graph) (events : List Event) (name : OrderName) (own : Standing) : Type 0 where
  pub is_in : IsIn own (open_orders events name.hour)
  pub hour : own.order.contract.hour ≡ name.hour

pub found_as : (graph : Graph) (events : List Event) (name : OrderName) (own : Standing) → IsLegalOver graph events
    → find (is_open_as name) (open_orders events name.hour) ≡ Some own → IsFoundAs graph events name own
found_as graph events name own legal found =
    let r = from_find (is_open_as name) own (open_orders events name.hour) found in
    let both = and_parts (same_name own.name name) (nat_lt 0 own.left) r.1 in
    let sound = order-sound graph events name.hour own legal r.0 in
    record { is_in = r.0; hour = sym sound.named ∙ ap (λ (n : OrderName). n.hour) (same_name-eq own.name name both.0) }

-- the lines of the orders of an hour
pub lines-are : (graph : Graph) (events : List Event) (orders : List Standing) (contract : Contract) (side : Side) → IsLegalOver graph events
    → orders ≡ open_orders events contract.hour → line_of orders contract side ≡ line events contract side
lines-are graph events orders contract side legal same =
    ap (λ os. line_of os contract side) same ∙ line-of_orders events contract side (record { setup = legal.setup; fit = legal.fit })

-- the zones of a line are there
pub line-zones : (graph : Graph) (events : List Event) (contract : Contract) (side : Side) → IsLegalOver graph events → AreInZones graph (line events contract side)
line-zones graph events contract side legal = record { each = zone }
  where
    zone : (order : Standing) → IsIn order (line events contract side) → HasZone graph order.order.zone
    zone order i =
        let found = from_line events contract side order i in
        let sound = of_placed graph events legal found.order found.is_open.is_placed in
        subst (λ s. HasZone graph s.order.zone) (sym found.is) sound.in_zone

-- one of the orders of its contract's hour
pub own-sound : (graph : Graph) (events : List Event) (orders : List Standing) (own : Standing) → IsLegalOver graph events
    → orders ≡ open_orders events own.order.contract.hour → IsIn own orders → IsSoundOrder graph own
own-sound graph events orders own legal same i =
    order-sound graph events own.order.contract.hour own legal (subst (λ os. IsIn own os) same i)

-- the line in which an order seeks its partner
pub other_line-is : (graph : Graph) (events : List Event) (orders : List Standing) (own : Standing) → IsLegalOver graph events
    → orders ≡ open_orders events own.order.contract.hour → other_line orders own ≡ line events own.order.contract (opposite own.order.side)
other_line-is graph events orders own legal same = lines-are graph events orders own.order.contract (opposite own.order.side) legal same

pub other_line-zones : (graph : Graph) (events : List Event) (orders : List Standing) (own : Standing) → IsLegalOver graph events
    → orders ≡ open_orders events own.order.contract.hour → AreInZones graph (other_line orders own)
other_line-zones graph events orders own legal same =
    subst (AreInZones graph) (sym (other_line-is graph events orders own legal same)) (line-zones graph events own.order.contract (opposite own.order.side) legal)

-- the same line, with what the order was entered with under another name
pub other_line-by : (orders : List Standing) (own : Standing) (order : Order) (side : Side) → order ≡ own.order → side ≡ opposite order.side
    → line_of orders order.contract side ≡ other_line orders own
other_line-by orders own order side of_order of_side =
    ap (line_of orders order.contract) of_side ∙ ap (λ (o : Order). line_of orders o.contract (opposite o.side)) of_order
