-- What bounds every well-formed history.
use Rattle.std.specs.Prelude.{◌≡◌, ℕ, ◌+◌, ◌<◌, ◌≤◌, true, false, List, ◌++◌, length, pos, ◌+ℤ◌}
use Rattle.order_kinds.specs.declared.order.OrderName.{OrderName}
use Rattle.order_kinds.specs.declared.contract.Part.{Part}
use Rattle.order_kinds.specs.declared.contract.Quarter.{Quarter}
use Rattle.zone_graph.specs.declared.route.Arc.{Arc}
use Rattle.zone_graph.specs.Pour.{opposite_arc}
use Rattle.market_model.specs.declared.command.Command.{Command}
use Rattle.market_model.specs.Capacity.{allocated, offered, remaining}
use Rattle.order_kinds.specs.Price.{price_in_range}
use Rattle.zone_graph.specs.Route.{IsIn}
use Rattle.market_model.specs.declared.event.Event.{Event}
use Rattle.market_model.specs.declared.setup.Setup.{Setup}
use Rattle.market_model.specs.History.{and_then, events_of, journal_events, of_hour}
use Rattle.market_model.specs.Market.{Turn, reply_by, run_by}
use Rattle.market_model.specs.Orders.{Placed, filled_by, is_open, left, moment, open_names, placed, price_now, taken_off_by}
use Rattle.market_model.specs.Refusals.{desk_room}
use Rattle.market_model.specs.WellFormed.{IsHistory, IsMarketSetup}

-- at most 999.0 MW are left of an order or block
abbrev pub LittleIsLeft : Type 0
LittleIsLeft = (setup : Setup) (events : List Event) (name : OrderName) → IsHistory setup events → left events name ≤ 9990

-- an event that closes an order or block fills it or takes it off: so the number of the open ones
-- falls by legs, withdrawals and reductions alone
abbrev pub TradesAndWithdrawalsAloneClose : Type 0
TradesAndWithdrawalsAloneClose = (before : List Event) (event : Event) (name : OrderName) → is_open before name ≡ true
    → is_open (and_then before event) name ≡ false → 1 ≤ filled_by name event + taken_off_by name event

-- orders of one contract and side that have one moment are one order
abbrev pub MomentsDiffer : Type 0
MomentsDiffer = (setup : Setup) (events : List Event) (one other : Placed) → IsHistory setup events → IsIn one (placed events) → IsIn other (placed events)
    → one.order.contract ≡ other.order.contract → one.order.side ≡ other.order.side → moment events one ≡ moment events other → one ≡ other

-- the price of an order is in range while something of it is left to fill: each peak of an iceberg
-- shows at an allowed price
abbrev pub PricesStayInRange : Type 0
PricesStayInRange = (setup : Setup) (events : List Event) (order : Placed) (filled : ℕ) → IsHistory setup events → IsIn order (placed events)
    → filled < order.order.quantity.0 → price_in_range (price_now order.order filled) ≡ true

-- after every entry of a journal at most 4096 orders and blocks are open that are named by an hour
abbrev pub FewAreOpen : Type 0
FewAreOpen = (setup : Setup) (parts : List Part) (turns : List Turn) (hour : ℕ) → IsMarketSetup setup
    → length (open_names (journal_events (run_by parts setup turns)) hour) ≤ desk_room

-- a reply after a well-formed history leaves at most 4096 open by each hour, where no more were
abbrev pub RepliesLeaveFewOpen : Type 0
RepliesLeaveFewOpen = (setup : Setup) (parts : List Part) (events : List Event) (caller : ℕ) (given : Command) → IsMarketSetup setup → IsHistory setup events
    → ((hour : ℕ) → length (open_names events hour) ≤ desk_room)
    → (hour : ℕ) → length (open_names (events ++ events_of (reply_by parts setup events caller given)) hour) ≤ desk_room

-- the events of an hour after a reply are those before it and the reply's events of that hour
abbrev pub HoursGoOnAlone : Type 0
HoursGoOnAlone = (setup : Setup) (parts : List Part) (events : List Event) (caller : ℕ) (given : Command) (hour : ℕ)
    → let done = events_of (reply_by parts setup events caller given) in of_hour hour (events ++ done) ≡ of_hour hour events ++ of_hour hour done

-- what is allocated on an arc and what remains there are together what is offered and what is
-- allocated the other way
abbrev pub CapacityAddsUp : Type 0
CapacityAddsUp = (events : List Event) (quarter : Quarter) (arc : Arc)
    → pos (allocated events quarter arc) +ℤ remaining events quarter arc ≡ pos (offered events quarter arc) +ℤ pos (allocated events quarter (opposite_arc arc))
