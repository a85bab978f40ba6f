-- The lines of the order book, and what two orders that do not trade say of the routes between them.
use Rattle.std.proofs.Common.{◌≡◌, ◌∙◌, ◌&&◌, Bool, true, false, List, filter, map, Option, Some, None, eq-eqb, is_some, nat_eq, refl, sym, ap, if◌then◌else◌}
use Rattle.std.proofs.lemmas.Bool.{true≢false, and_parts, and_from}
use Rattle.std.proofs.lemmas.Cmp.{nat_cmp_total, on_total, then_total}
use Rattle.std.proofs.lemmas.List.Sorted.{ranks_by}
use Rattle.std.specs.Cmp.{IsStrictWeakOrder, IsTotalOrder}
use Rattle.std.specs.Option.{option_and_then}
use Rattle.std.specs.Ordering.{is_lt}
use Rattle.order_kinds.specs.declared.contract.Contract.{Contract}
use Rattle.order_kinds.specs.declared.contract.Part.{Part}
use Rattle.order_kinds.specs.declared.contract.Part.TheVariants as part
use Rattle.order_kinds.specs.declared.side.Side.{Side}
use Rattle.order_kinds.specs.declared.side.Side.TheVariants.{Buy, Sell}
use Rattle.order_kinds.specs.Period.{contract_quarters}
use Rattle.order_kinds.specs.Same.{same_contract, same_part, same_side}
use Rattle.order_kinds.specs.Side.{crosses, opposite}
use Rattle.order_kinds.proofs.PriceOrder.{price_cmp_total}
use Rattle.zone_graph.specs.Graph.{Graph}
use Rattle.zone_graph.specs.Reach.{reaches}
use Rattle.zone_graph.specs.Route.{IsIn, best_route}
use Rattle.zone_graph.proofs.Membership.{IsIn-filter, IsIn-map}
use Rattle.zone_graph.proofs.Finding.{map-none}
use Rattle.market_model.specs.declared.event.Event.{Event}
use Rattle.market_model.specs.Lines.{buyer_zone, line, partner, priority_cmp, rooms_for, seller_zone, stands_in, time_cmp}
use Rattle.market_model.specs.Orders.{Placed, Standing, is_open, placed, standing}
use Rattle.market_model.specs.Room.{room}
use Rattle.market_model.specs.Sweep.{leg_of_buy, resting_trade}
use Rattle.market_model.specs.Taking.{leg_over, trade}
use Rattle.laws_of_market.proofs.Ascending.{Ascends, ascends-in_order}
use Rattle.laws_of_market.proofs.Members.{IsIn-in_order}
use Rattle.laws_of_market.proofs.Trades.{IsOpen, IsPartner, partner-is}

-- ---- priority

-- priority is an order in which any two compare, and so is priority by time
time_total : IsTotalOrder time_cmp
time_total = then_total (on_total (λ (s : Standing). s.moment) nat_cmp_total) (on_total (λ (s : Standing). s.name.number) nat_cmp_total)

priority_total : (side : Side) → IsTotalOrder (priority_cmp side)
priority_total side = then_total (on_total (λ (s : Standing). s.price) (price_cmp_total side)) time_total

pub time_weak : IsStrictWeakOrder (λ (a b : Standing). is_lt (time_cmp a b))
time_weak = ranks_by time_total (λ (s : Standing). s)

pub priority_weak : (side : Side) → IsStrictWeakOrder (λ (a b : Standing). is_lt (priority_cmp side a b))
priority_weak side = ranks_by (priority_total side) (λ (s : Standing). s)

-- a line is in priority
pub line-ascends : (events : List Event) (contract : Contract) (side : Side) → Ascends (priority_cmp side) (priority_weak side) (line events contract side)
unfolding line
line-ascends events contract side =
    ascends-in_order (priority_cmp side) (priority_weak side) (map (standing events) (filter (stands_in events contract side) (placed events)))

-- ---- who stands in a line

same_part-refl : (a : Part) → same_part a a ≡ true
same_part-refl part.Hour = refl
same_part-refl (part.Half n) = eq-eqb n n refl
same_part-refl (part.Quarter n) = eq-eqb n n refl

pub same_contract-refl : (a : Contract) → same_contract a a ≡ true
same_contract-refl a = and_from (nat_eq a.hour a.hour) (same_part a.part a.part) (eq-eqb a.hour a.hour refl) (same_part-refl a.part)

pub same_side-refl : (side : Side) → same_side side side ≡ true
same_side-refl Buy = refl
same_side-refl Sell = refl

-- an open order stands in the line of its contract and side
pub IsIn-line : (events : List Event) (order : Placed) → IsOpen events order → IsIn (standing events order) (line events order.order.contract order.order.side)
unfolding line
IsIn-line events order opened =
    let contract : Contract = order.order.contract in
    let side : Side = order.order.side in
    let stands : stands_in events contract side order ≡ true =
    and_from (is_open events order.name && same_contract contract contract) (same_side side side)
    (and_from (is_open events order.name) (same_contract contract contract) opened.is_left (same_contract-refl contract)) (same_side-refl side) in
    IsIn-in_order (priority_cmp side) (standing events order) (map (standing events) (filter (stands_in events contract side) (placed events)))
    (IsIn-map (standing events) order (filter (stands_in events contract side) (placed events))
    (IsIn-filter (stands_in events contract side) order (placed events) opened.is_placed stands))

-- ---- who does not trade

-- where two orders do not trade no route leads from the one to the other
pub no_trade : (graph : Graph) (events : List Event) (taker maker : Standing) → trade graph events taker maker ≡ None
    → reaches graph (rooms_for events taker) (seller_zone taker maker) (buyer_zone taker maker) ≡ false
unfolding trade
no_trade graph events taker maker none =
    ap is_some (map-none (leg_over (rooms_for events taker) taker maker) (best_route graph (rooms_for events taker) (seller_zone taker maker) (buyer_zone taker maker)) none)

-- the zones of the seller and the buyer, by the side of the first of two orders
pub seller-to-buy : (own other : Standing) → own.order.side ≡ Buy → seller_zone own other ≡ other.order.zone
seller-to-buy own other is = rw is refl

pub buyer-to-buy : (own other : Standing) → own.order.side ≡ Buy → buyer_zone own other ≡ own.order.zone
buyer-to-buy own other is = rw is refl

pub seller-to-sell : (own other : Standing) → own.order.side ≡ Sell → seller_zone own other ≡ own.order.zone
seller-to-sell own other is = rw is refl

pub buyer-to-sell : (own other : Standing) → own.order.side ≡ Sell → buyer_zone own other ≡ other.order.zone
buyer-to-sell own other is = rw is refl

module _ (graph : Graph) (events : List Event) (own : Placed) (on_buy : own.order.side ≡ Buy) where
  abbrev it : Standing
  it = standing events own

  -- the zones of a trade are the same whoever is the taker
  turned : (found : Standing) → found.order.side ≡ Sell → found.order.contract ≡ own.order.contract → trade graph events found it ≡ None
      → reaches graph (rooms_for events it) (seller_zone it found) (buyer_zone it found) ≡ false
  turned found on_sell same none =
      ap (λ z. reaches graph (rooms_for events it) z (buyer_zone it found)) (seller-to-buy it found on_buy)
      ∙ ap (λ z. reaches graph (rooms_for events it) found.order.zone z) (buyer-to-buy it found on_buy)
      ∙ ap (λ (c : Contract). reaches graph (room events (contract_quarters c)) found.order.zone own.order.zone) (sym same)
      ∙ sym (ap (λ z. reaches graph (rooms_for events found) z (buyer_zone found it)) (seller-to-sell found it on_sell)
      ∙ ap (λ z. reaches graph (rooms_for events found) found.order.zone z) (buyer-to-sell found it on_sell))
      ∙ no_trade graph events found it none

  -- a buy that has a leg with no partner has none
  pub no_partner : leg_of_buy graph events it ≡ None → partner graph events it ≡ None
  no_partner none = go (partner graph events it) refl
    where
      resting : (found : Standing) → IsPartner graph events it found → (t : Bool) → (if t then trade graph events found it else trade graph events it found) ≡ None
          → reaches graph (rooms_for events it) (seller_zone it found) (buyer_zone it found) ≡ false
      resting found is true k =
          let in_line = is.in_line in
          let side : found.order.side ≡ Sell = ap (λ (s : Standing). s.order.side) in_line.is ∙ in_line.on_side ∙ ap opposite on_buy in
          let same : found.order.contract ≡ own.order.contract = ap (λ (s : Standing). s.order.contract) in_line.is ∙ in_line.of_contract in
          turned found side same k
      resting found is false k = no_trade graph events it found k

      go : (o : Option Standing) → partner graph events it ≡ o → partner graph events it ≡ None
      go None is = is
      go (Some found) is =
          let found_is = partner-is graph events it found is in
          let none_there : (if is_lt (time_cmp it found) then trade graph events found it else trade graph events it found) ≡ None =
          ap (λ o. option_and_then (resting_trade graph events it) o) (sym is) ∙ none in
          let reach = and_parts (crosses it.order.side it.price found.price) (reaches graph (rooms_for events it) (seller_zone it found) (buyer_zone it found)) found_is.can_trade in
          absurd (true≢false (sym reach.1 ∙ resting found found_is (is_lt (time_cmp it found)) none_there))
