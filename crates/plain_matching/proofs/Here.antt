-- With the rooms of a contract, partners and legs over rooms are those of the market.
use Rattle.std.proofs.Common.{◌≡◌, ◌∙◌, ℕ, ◌&&◌, List, Option, Some, None, nat_lt, refl, sym, ap, if◌then◌else◌}
use Rattle.std.proofs.lemmas.Bool.{and_parts, true≢false}
use Rattle.std.specs.Option.{option_and_then, option_map}
use Rattle.std.specs.Ordering.{is_lt}
use Rattle.order_kinds.specs.declared.contract.Contract.{Contract}
use Rattle.order_kinds.specs.declared.order.OrderName.{OrderName}
use Rattle.order_kinds.specs.declared.side.Side.TheVariants.{Buy, Sell}
use Rattle.order_kinds.specs.Period.{contract_quarters}
use Rattle.order_kinds.specs.Same.{same_name}
use Rattle.order_kinds.specs.Side.{opposite}
use Rattle.zone_graph.specs.declared.route.Arc.{Arc}
use Rattle.zone_graph.specs.Graph.{Graph, IsGraph}
use Rattle.zone_graph.specs.Rooms.{room_of}
use Rattle.zone_graph.proofs.Finding.{from_find}
use Rattle.market_model.specs.declared.event.Event.{Event}
use Rattle.market_model.specs.Lines.{line, partner, time_cmp}
use Rattle.market_model.specs.Orders.{Placed, Standing, is_open, left, open_order, placed, standing}
use Rattle.market_model.specs.Room.{room}
use Rattle.market_model.specs.Sweep.{first_answer, leg_in, leg_of_buy, resting_trade}
use Rattle.market_model.specs.Taking.{next_leg, standing_order, trade}
use Rattle.laws_of_market.proofs.Tests.{same_name-eq}
use Rattle.laws_of_market.proofs.Trades.{IsInLine, from_line, partner-is}
use Rattle.laws_of_market.proofs.LocalLines.{first_answer-same}
use Rattle.plain_matching.specs.Over.{AreRoomsFor, leg_of_buy_over, leg_with_partner, partner_in, resting_trade_over, trade_over}
use Rattle.plain_matching.proofs.SameRooms.{partner_in-rooms, trade_over-rooms}

module _ (graph : Graph) (is : IsGraph graph) (events : List Event) (contract : Contract) (rooms : List (ℕ × ℕ)) (are : AreRoomsFor graph events contract rooms) where
  abbrev rooms_of : Contract → Arc → ℕ
  rooms_of c = room events (contract_quarters c)

  pub partner-here : (own : Standing) (others : List Standing) → own.order.contract ≡ contract
      → others ≡ line events contract (opposite own.order.side) → partner_in graph (room_of rooms) others own ≡ partner graph events own
  unfolding partner
  partner-here own others same are_others =
      partner_in-rooms graph (room_of rooms) (rooms_of contract) is are.rooms others own
      ∙ ap (λ l. partner_in graph (rooms_of contract) l own) are_others
      ∙ ap (λ c. partner_in graph (rooms_of c) (line events c (opposite own.order.side)) own) (sym same)

  pub trade-here : (taker maker : Standing) → taker.order.contract ≡ contract → trade_over graph (room_of rooms) taker maker ≡ trade graph events taker maker
  unfolding trade
  trade-here taker maker same =
      trade_over-rooms graph (room_of rooms) (rooms_of contract) is are.rooms taker maker
      ∙ ap (λ c. trade_over graph (rooms_of c) taker maker) (sym same)

  -- the leg of an order with the partner that was found
  pub leg-here : (own other : Standing) → own.order.contract ≡ contract → partner graph events own ≡ Some other
      → trade_over graph (room_of rooms) own other ≡ leg_with_partner graph events own
  leg-here own other same found = trade-here own other same ∙ ap (option_and_then (trade graph events own)) (sym found)

  pub resting-here : (buy sell : Standing) → buy.order.contract ≡ contract → sell.order.contract ≡ contract
      → resting_trade_over graph (room_of rooms) buy sell ≡ resting_trade graph events buy sell
  resting-here buy sell of_buy of_sell =
      ap (λ leg. if is_lt (time_cmp buy sell) then leg else trade_over graph (room_of rooms) buy sell) (trade-here sell buy of_sell)
      ∙ ap (λ leg. if is_lt (time_cmp buy sell) then trade graph events sell buy else leg) (trade-here buy sell of_buy)

  -- the leg of a buy of the line with its partner
  pub leg_of_buy-here : (sells : List Standing) (buy : Standing) → sells ≡ line events contract Sell → IsInLine events contract Buy buy
      → leg_of_buy_over graph (room_of rooms) sells buy ≡ leg_of_buy graph events buy
  leg_of_buy-here sells buy are_sells in_line =
      ap (option_and_then (resting_trade_over graph (room_of rooms) buy)) (partner-here buy sells own to_sell)
      ∙ on (partner graph events buy) refl
    where
      own : buy.order.contract ≡ contract
      own = ap (λ (s : Standing). s.order.contract) in_line.is ∙ in_line.of_contract

      side : buy.order.side ≡ Buy
      side = ap (λ (s : Standing). s.order.side) in_line.is ∙ in_line.on_side

      to_sell : sells ≡ line events contract (opposite buy.order.side)
      to_sell = are_sells ∙ ap (λ s. line events contract (opposite s)) (sym side)

      on : (o : Option Standing) → partner graph events buy ≡ o
          → option_and_then (resting_trade_over graph (room_of rooms) buy) o ≡ option_and_then (resting_trade graph events buy) o
      on None found = refl
      on (Some sell) found =
          let its = (partner-is graph events buy sell found).in_line in
          resting-here buy sell own (ap (λ (s : Standing). s.order.contract) its.is ∙ its.of_contract ∙ own)

  -- the leg of the first buy that has a partner
  pub legs-here : (buys sells : List Standing) → buys ≡ line events contract Buy → sells ≡ line events contract Sell
      → first_answer (leg_of_buy_over graph (room_of rooms) sells) buys ≡ leg_in graph events contract
  legs-here buys sells are_buys are_sells =
      ap (first_answer (leg_of_buy_over graph (room_of rooms) sells)) are_buys
      ∙ first_answer-same (leg_of_buy_over graph (room_of rooms) sells) (leg_of_buy graph events) (line events contract Buy)
      (λ buy i. leg_of_buy-here sells buy are_sells (from_line events contract Buy buy i))

-- a buy that has no partner in a line has no leg
pub no_partner-over : (graph : Graph) (room : Arc → ℕ) (sells : List Standing) (buy : Standing) → partner_in graph room sells buy ≡ None
    → None ≡ leg_of_buy_over graph room sells buy
no_partner-over graph room sells buy none = sym (ap (option_and_then (resting_trade_over graph room buy)) none)

-- an order that is open takes the leg with its partner, and without one there is no leg
pub next_leg-is : (graph : Graph) (events : List Event) (name : OrderName) (own : Standing) → Some own ≡ standing_order events name
    → leg_with_partner graph events own ≡ next_leg graph name events
unfolding next_leg
next_leg-is graph events name own found = ap (option_and_then (leg_with_partner graph events)) found

pub no_leg : (graph : Graph) (events : List Event) (name : OrderName) → None ≡ standing_order events name → None ≡ next_leg graph name events
unfolding next_leg
no_leg graph events name found = ap (option_and_then (leg_with_partner graph events)) found

-- nor where nothing is left of it
pub none_left : (graph : Graph) (events : List Event) (name : OrderName) → left events name ≡ 0 → None ≡ next_leg graph name events
none_left graph events name none = no_leg graph events name (by (open_order events name) refl)
  where
    by : (o : Option Placed) → open_order events name ≡ o → None ≡ option_map (standing events) o
    by None found = refl
    by (Some own) found =
        let both = and_parts (same_name own.name name) (is_open events own.name)
        (from_find (λ (order : Placed). same_name order.name name && is_open events order.name) own (placed events) found).1 in
        absurd (true≢false (sym both.1 ∙ ap (is_open events) (same_name-eq own.name name both.0) ∙ ap (nat_lt 0) none))

pub no_partner-leg : (graph : Graph) (events : List Event) (own : Standing) → partner graph events own ≡ None → None ≡ leg_with_partner graph events own
no_partner-leg graph events own none = sym (ap (option_and_then (trade graph events own)) none)
