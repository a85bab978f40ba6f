-- What every legal history keeps, event by event, given the events before. Over lists of events of
-- any kind much of what is said of orders and capacity is false; of these lists it holds.
use Rattle.std.specs.Prelude.{◌≡◌, ℕ, ◌<◌, ◌≤◌, true, List, [], ◌∷◌, length, None, pos, ◌≤ℤ◌}
use Rattle.order_kinds.specs.declared.contract.Contract.{Contract}
use Rattle.order_kinds.specs.declared.contract.Quarter.{Quarter}
use Rattle.order_kinds.specs.declared.order.BlockOrder.{BlockOrder}
use Rattle.order_kinds.specs.declared.order.Kind.TheVariants as kind
use Rattle.order_kinds.specs.declared.order.Order.{Order}
use Rattle.order_kinds.specs.declared.order.OrderName.{OrderName}
use Rattle.order_kinds.specs.declared.phase.Phase.{Phase}
use Rattle.order_kinds.specs.Contract.{is_known}
use Rattle.order_kinds.specs.Order.{block_fault, order_fault}
use Rattle.order_kinds.specs.Period.{block_quarters, contract_quarters, is_not_after, is_within, range_quarters}
use Rattle.order_kinds.specs.Phase.{is_later}
use Rattle.order_kinds.specs.Side.{opposite}
use Rattle.zone_graph.specs.declared.route.Arc.{Arc}
use Rattle.zone_graph.specs.Graph.{HasArc, HasZone, IsGraph, border_count, Graph}
use Rattle.zone_graph.specs.Route.{IsIn, IsRoute}
use Rattle.market_model.specs.declared.event.Event.{Event}
use Rattle.market_model.specs.declared.event.Event.TheVariants as event
use Rattle.market_model.specs.declared.event.Leg.{Leg}
use Rattle.market_model.specs.declared.setup.Setup.{Setup}
use Rattle.market_model.specs.Blocks.{block_buyer_zone, block_seller_zone, standing_block}
use Rattle.market_model.specs.Capacity.{flow}
use Rattle.market_model.specs.Grid.{graph_of}
use Rattle.market_model.specs.History.{and_then}
use Rattle.market_model.specs.Lines.{buyer_zone, seller_zone}
use Rattle.market_model.specs.Orders.{Placed, PlacedBlock, blocks_placed, is_open, left, next_name, placed, standing}
use Rattle.market_model.specs.Room.{phase_of, quarter_room, room}
use Rattle.market_model.specs.Rules.{is_block_period}
use Rattle.quarter_capacity.specs.Capacity.{most_offered}

-- the setup of a market: each border joins two different zones
abbrev pub IsMarketSetup : Setup → Type 0
IsMarketSetup setup = IsGraph (graph_of setup)

-- an order is open under this name
pub record IsOpenOrder (events : List Event) (order : Placed) (name : OrderName) : Type 0 where
  pub is_placed : IsIn order (placed events)
  pub is_named : order.name ≡ name
  pub is_left : is_open events name ≡ true

-- a block is open under this name
pub record IsOpenBlock (events : List Event) (block : PlacedBlock) (name : OrderName) : Type 0 where
  pub is_placed : IsIn block (blocks_placed events)
  pub is_named : block.name ≡ name
  pub is_left : is_open events name ≡ true

-- an order enters: under the next name of its contract's hour, of a known caller and zone and a
-- contract that there is, with sound numbers
pub record OrderEnters (setup : Setup) (before : List Event) (name : OrderName) (caller : ℕ) (order : Order) : Type 0 where
  pub named : name ≡ next_name before order.contract.hour
  pub of_caller : caller < length setup.callers
  pub in_hour : is_within 1 setup.hours order.contract.hour ≡ true
  pub in_part : is_known order.contract.part ≡ true
  pub in_zone : HasZone (graph_of setup) order.zone
  pub sound : order_fault order ≡ None

-- a block enters: under the next name of its first hour, of a known caller and zone, for 2 to 24
-- hours of the day, with sound numbers
pub record BlockEnters (setup : Setup) (before : List Event) (name : OrderName) (caller : ℕ) (order : BlockOrder) : Type 0 where
  pub named : name ≡ next_name before order.first
  pub of_caller : caller < length setup.callers
  pub from_hour : is_within 1 setup.hours order.first ≡ true
  pub to_hour : is_within 1 setup.hours order.last ≡ true
  pub of_period : is_block_period order.first order.last ≡ true
  pub in_zone : HasZone (graph_of setup) order.zone
  pub sound : block_fault order ≡ None

-- a route carries lots from zone to zone, over arcs that each have room for them
pub record Carries (setup : Setup) (room : Arc → ℕ) (from to lots : ℕ) (route : List Arc) : Type 0 where
  pub is_route : IsRoute (graph_of setup) room from to route
  pub has_room : (arc : Arc) → IsIn arc route → lots ≤ room arc

-- two orders trade: open ones of the contract and of opposite sides, at the maker's price, at least
-- a lot and no more than both show, over a route from the seller to the buyer
pub record LegFits (setup : Setup) (before : List Event) (contract : Contract) (leg : Leg) : Type 0 where
  pub taker : Placed
  pub maker : Placed
  pub taker_open : IsOpenOrder before taker leg.taker
  pub maker_open : IsOpenOrder before maker leg.maker
  pub taker_contract : taker.order.contract ≡ contract
  pub maker_contract : maker.order.contract ≡ contract
  pub opposed : maker.order.side ≡ opposite taker.order.side
  pub price : leg.price ≡ (standing before maker).price
  pub some : 1 ≤ leg.lots
  pub taker_shows : leg.lots ≤ (standing before taker).shown
  pub maker_shows : leg.lots ≤ (standing before maker).shown
  pub carried : Carries setup (room before (contract_quarters contract))
      (seller_zone (standing before taker) (standing before maker)) (buyer_zone (standing before taker) (standing before maker))
      leg.lots leg.route

-- two blocks trade over one route: open ones of the period and of opposite sides and one quantity,
-- at the maker's price, at least a lot and no more than is left of both
pub record BlockLegFits (setup : Setup) (before : List Event) (first last : ℕ) (leg : Leg) : Type 0 where
  pub taker : PlacedBlock
  pub maker : PlacedBlock
  pub taker_open : IsOpenBlock before taker leg.taker
  pub maker_open : IsOpenBlock before maker leg.maker
  pub taker_first : taker.order.first ≡ first
  pub taker_last : taker.order.last ≡ last
  pub maker_first : maker.order.first ≡ first
  pub maker_last : maker.order.last ≡ last
  pub opposed : maker.order.side ≡ opposite taker.order.side
  pub one_quantity : maker.order.quantity ≡ taker.order.quantity
  pub price : leg.price ≡ maker.order.price
  pub some : 1 ≤ leg.lots
  pub taker_has : leg.lots ≤ left before leg.taker
  pub maker_has : leg.lots ≤ left before leg.maker
  pub carried : Carries setup (room before (block_quarters first last))
      (block_seller_zone (standing_block before taker) (standing_block before maker))
      (block_buyer_zone (standing_block before taker) (standing_block before maker))
      leg.lots leg.route

-- a range of quarters of the day, on an arc that there is
pub record IsRange (setup : Setup) (arc : Arc) (first last : Quarter) : Type 0 where
  pub on_arc : HasArc (graph_of setup) arc
  pub from_hour : is_within 1 setup.hours first.hour ≡ true
  pub to_hour : is_within 1 setup.hours last.hour ≡ true
  pub in_order : is_not_after first last ≡ true

-- capacity is granted: at least a lot, and no more than each quarter has room for
pub record GrantFits (setup : Setup) (before : List Event) (arc : Arc) (first last : Quarter) (lots : ℕ) : Type 0 where
  pub range : IsRange setup arc first last
  pub some : 1 ≤ lots
  pub has_room : (quarter : Quarter) → IsIn quarter (range_quarters first last) → lots ≤ quarter_room before arc quarter

-- capacity is offered: no more than the greatest offer, and in no quarter less than what flows
pub record OfferFits (setup : Setup) (before : List Event) (arc : Arc) (first last : Quarter) (lots : ℕ) : Type 0 where
  pub range : IsRange setup arc first last
  pub most : lots ≤ most_offered
  pub covers_flow : (quarter : Quarter) → IsIn quarter (range_quarters first last) → flow before quarter arc ≤ℤ pos lots

-- a border is halted or resumed in hours of the day
pub record BorderFits (setup : Setup) (border first last : ℕ) : Type 0 where
  pub on_border : border < border_count (graph_of setup)
  pub from_hour : is_within 1 setup.hours first ≡ true
  pub to_hour : is_within 1 setup.hours last ≡ true
  pub in_order : first ≤ last

-- an hour of the day moves to a later phase
pub record GateFits (setup : Setup) (before : List Event) (hour : ℕ) (phase : Phase) : Type 0 where
  pub in_hour : is_within 1 setup.hours hour ≡ true
  pub later : is_later phase (phase_of before hour) ≡ true

-- an order or block is withdrawn: all that is left of it
pub record WithdrawalFits (before : List Event) (name : OrderName) (lots : ℕ) : Type 0 where
  pub some : 1 ≤ lots
  pub all_left : lots ≡ left before name

-- an open plain limit order is reduced: something stays
pub record ReductionFits (before : List Event) (name : OrderName) (by : ℕ) : Type 0 where
  pub order : Placed
  pub order_open : IsOpenOrder before order name
  pub is_limit : order.order.kind ≡ kind.Limit
  pub some : 1 ≤ by
  pub less : by < left before name

-- an event fits the events before it
abbrev pub Fits : Setup → (before : List Event) → Event → Type 0
Fits setup before (event.Entered name caller order) = OrderEnters setup before name caller order
Fits setup before (event.EnteredBlock name caller order) = BlockEnters setup before name caller order
Fits setup before (event.Leg contract leg) = LegFits setup before contract leg
Fits setup before (event.BlockLeg first last leg) = BlockLegFits setup before first last leg
Fits setup before (event.Granted arc first last lots) = GrantFits setup before arc first last lots
Fits setup before (event.Offered arc first last lots) = OfferFits setup before arc first last lots
Fits setup before (event.Halted border first last) = BorderFits setup border first last
Fits setup before (event.Resumed border first last) = BorderFits setup border first last
Fits setup before (event.Gated hour phase) = GateFits setup before hour phase
Fits setup before (event.Withdrawn name lots) = WithdrawalFits before name lots
Fits setup before (event.Reduced name by) = ReductionFits before name by

-- each of some events fits what comes before it
abbrev pub FitAfter : Setup → (before : List Event) → List Event → Type 0
FitAfter setup before [] = Unit {0}
FitAfter setup before (event ∷ events) = Fits setup before event × FitAfter setup (and_then before event) events

-- open blocks are whole: nothing was traded of them
abbrev pub BlocksAreWhole : List Event → Type 0
BlocksAreWhole events = (block : PlacedBlock) → IsIn block (blocks_placed events) → is_open events block.name ≡ true
    → left events block.name ≡ block.order.quantity.0

-- a well-formed history: each event fits those before it, and open blocks are whole
pub record IsHistory (setup : Setup) (events : List Event) : Type 0 where
  pub fit : FitAfter setup [] events
  pub whole : BlocksAreWhole events

-- a first part of a legal history over a graph: each event fits those before it
pub record IsLegalOver (graph : Graph) (events : List Event) : Type 0 where
  pub setup : Setup
  pub over : graph ≡ graph_of setup
  pub fit : FitAfter setup [] events
