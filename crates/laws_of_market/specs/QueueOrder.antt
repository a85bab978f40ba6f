-- The place of an order in the queue: who is traded with first, and what changes the place.
use Rattle.std.specs.Prelude.{◌≡◌, ℕ, ◌≤◌, ◌⊎◌, Bool, true, false, List, ◌∷◌, ◌++◌, None}
use Rattle.std.specs.Ordering.{is_lt}
use Rattle.order_kinds.specs.declared.contract.Contract.{Contract}
use Rattle.order_kinds.specs.declared.contract.Part.{Part}
use Rattle.order_kinds.specs.declared.order.OrderName.{OrderName}
use Rattle.order_kinds.specs.declared.side.Side.{Side}
use Rattle.order_kinds.specs.declared.side.Side.TheVariants.{Buy, Sell}
use Rattle.order_kinds.specs.Side.{crosses, opposite}
use Rattle.zone_graph.specs.Graph.{Graph}
use Rattle.zone_graph.specs.Route.{IsIn}
use Rattle.market_model.specs.declared.command.Command.{Command}
use Rattle.market_model.specs.declared.event.Event.{Event}
use Rattle.market_model.specs.declared.event.Event.TheVariants as event
use Rattle.market_model.specs.declared.event.Leg.{Leg}
use Rattle.market_model.specs.declared.setup.Setup.{Setup}
use Rattle.market_model.specs.HistoryLaws.{history_of}
use Rattle.market_model.specs.Grid.{graph_of}
use Rattle.market_model.specs.History.{and_then, events_of}
use Rattle.market_model.specs.Lines.{can_trade, partner, priority_cmp, rooms_for, time_cmp}
use Rattle.market_model.specs.Market.{Turn, reply_by}
use Rattle.market_model.specs.Orders.{Placed, Standing, ends_peak, filled, is_open, moment, names, placed, standing}
use Rattle.market_model.specs.Sweep.{sweep}
use Rattle.market_model.specs.Taking.{take}
use Rattle.market_model.specs.WellFormed.{IsHistory, IsMarketSetup, IsOpenOrder}

-- ---- who is traded with first

-- on a side, an order goes before another: at a better price now, or at the same one since an
-- earlier moment
abbrev pub goes_before : Side → (one other : Standing) → Bool
goes_before side one other = is_lt (priority_cmp side one other)

-- an open order of another's contract and side goes before it in their line
pub record GoesBefore (events : List Event) (one other : Placed) : Type 0 where
  pub is_placed : IsIn one (placed events)
  pub is_left : is_open events one.name ≡ true
  pub one_contract : one.order.contract ≡ other.order.contract
  pub one_side : one.order.side ≡ other.order.side
  pub first : goes_before other.order.side (standing events one) (standing events other) ≡ true

-- a leg is in its turn: of two open orders of the contract and of opposite sides, at the maker's
-- price, which is no worse for the taker than its own; and of the open orders that go before the
-- maker in its line the taker can trade with none, since the price does not cross or no route joins
-- the two
pub record IsInTurn (graph : Graph) (events : List Event) (contract : Contract) (leg : Leg) : Type 0 where
  pub taker : Placed
  pub maker : Placed
  pub taker_open : IsOpenOrder events taker leg.taker
  pub maker_open : IsOpenOrder events maker leg.maker
  pub taker_contract : taker.order.contract ≡ contract
  pub maker_contract : maker.order.contract ≡ contract
  pub opposed : maker.order.side ≡ opposite taker.order.side
  pub price : leg.price ≡ (standing events maker).price
  pub no_worse : crosses taker.order.side (standing events taker).price leg.price ≡ true
  pub none_passed : (other : Placed) → GoesBefore events other maker
      → can_trade graph (rooms_for events (standing events taker)) (standing events taker) (standing events other) ≡ false

-- the buy of a taker and a maker
abbrev pub buy_of : (taker maker : Placed) → Placed
buy_of taker maker = by_side taker.order.side
  where
    by_side : Side → Placed
    by_side Buy = taker
    by_side Sell = maker

-- a leg is of the first buy that can trade: it is in its turn, no open buy that goes before its own
-- has a partner, and its maker was there no later than its taker
pub record IsOfFirstBuy (graph : Graph) (events : List Event) (contract : Contract) (leg : Leg) : Type 0 where
  pub in_turn : IsInTurn graph events contract leg
  pub none_before : (other : Placed) → GoesBefore events other (buy_of in_turn.taker in_turn.maker) → partner graph events (standing events other) ≡ None
  pub earlier : is_lt (time_cmp (standing events in_turn.taker) (standing events in_turn.maker)) ≡ false

-- after any events each leg of a taking is in its turn, at its place in the history
abbrev pub TakingsPassNoneOver : Type 0
TakingsPassNoneOver = (graph : Graph) (events : List Event) (name : OrderName) (before after : List Event) (contract : Contract) (leg : Leg)
    → take graph events name ≡ before ++ (event.Leg contract leg ∷ after) → IsInTurn graph (events ++ before) contract leg

-- and each leg of a sweep is of the first buy that can trade
abbrev pub SweepsBeginWithTheFirstBuy : Type 0
SweepsBeginWithTheFirstBuy = (graph : Graph) (parts : List Part) (hour : ℕ) (events : List Event) (before after : List Event) (contract : Contract) (leg : Leg)
    → sweep parts graph hour events ≡ before ++ (event.Leg contract leg ∷ after) → IsOfFirstBuy graph (events ++ before) contract leg

-- so each leg of a reply after a well-formed history is in its turn
abbrev pub RepliesPassNoneOver : Type 0
RepliesPassNoneOver = (setup : Setup) (parts : List Part) (events : List Event) (caller : ℕ) (given : Command) (before after : List Event) (contract : Contract) (leg : Leg)
    → IsMarketSetup setup → IsHistory setup events
    → events_of (reply_by parts setup events caller given) ≡ before ++ (event.Leg contract leg ∷ after)
    → IsInTurn (graph_of setup) (events ++ before) contract leg

-- and where its taker was there before the command, it is of the first buy that can trade
abbrev pub RestingOrdersTradeFirstBuyFirst : Type 0
RestingOrdersTradeFirstBuyFirst = (setup : Setup) (parts : List Part) (events : List Event) (caller : ℕ) (given : Command) (before after : List Event)
    (contract : Contract) (leg : Leg) (taker : Placed) → IsMarketSetup setup → IsHistory setup events
    → events_of (reply_by parts setup events caller given) ≡ before ++ (event.Leg contract leg ∷ after)
    → IsIn taker (placed events) → taker.name ≡ leg.taker
    → IsOfFirstBuy (graph_of setup) (events ++ before) contract leg

-- so is each leg of a journal
abbrev pub NoneIsPassedOver : Type 0
NoneIsPassedOver = (setup : Setup) (turns : List Turn) (before after : List Event) (contract : Contract) (leg : Leg) → IsMarketSetup setup
    → history_of setup turns ≡ before ++ (event.Leg contract leg ∷ after) → IsInTurn (graph_of setup) before contract leg

-- ---- what changes a place

-- among some events that follow others there is a leg of an order that empties one of its peaks: of
-- an order that is no iceberg there is none
pub record EmptiesAPeak (before more : List Event) (order : Placed) : Type 0 where
  pub front : List Event
  pub back : List Event
  pub contract : Contract
  pub leg : Leg
  pub split : more ≡ front ++ (event.Leg contract leg ∷ back)
  pub is_of : names leg order.name ≡ true
  pub ends : ends_peak order.order.kind (filled (and_then (before ++ front) (event.Leg contract leg)) order.name) ≡ true

-- an order has kept its moment, or one of its peaks was emptied
abbrev pub KeepsMoment : (before more : List Event) → Placed → Type 0
KeepsMoment before more order = (moment (before ++ more) order ≡ moment before order) ⊎ EmptiesAPeak before more order

-- whatever else happens, an order keeps its moment until one of its peaks is emptied
abbrev pub MomentsAreKept : Type 0
MomentsAreKept = (setup : Setup) (before more : List Event) (order : Placed) → IsHistory setup (before ++ more) → IsIn order (placed before)
    → KeepsMoment before more order

-- so it does whatever command any caller gives
abbrev pub RepliesKeepMoments : Type 0
RepliesKeepMoments = (setup : Setup) (parts : List Part) (events : List Event) (caller : ℕ) (given : Command) (order : Placed) → IsMarketSetup setup
    → IsHistory setup events → IsIn order (placed events) → KeepsMoment events (events_of (reply_by parts setup events caller given)) order

-- and nobody of its hour who was there no earlier, or was not there yet, has an earlier moment than
-- one who keeps it
abbrev pub NobodyOvertakes : Type 0
NobodyOvertakes = (setup : Setup) (before more : List Event) (order other : Placed) → IsHistory setup (before ++ more) → IsIn order (placed before)
    → IsIn other (placed (before ++ more)) → order.order.contract.hour ≡ other.order.contract.hour
    → (IsIn other (placed before) → moment before order ≤ moment before other)
    → moment (before ++ more) order ≡ moment before order → moment (before ++ more) order ≤ moment (before ++ more) other
