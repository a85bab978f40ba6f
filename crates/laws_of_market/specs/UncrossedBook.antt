-- Order books that are not crossed: what replies and single events keep of them.
use Rattle.std.specs.Prelude.{◌≡◌, ℕ, true, false, List, ◌++◌}
use Rattle.order_kinds.specs.declared.order.OrderName.{OrderName}
use Rattle.order_kinds.specs.declared.side.Side.TheVariants.{Buy, Sell}
use Rattle.zone_graph.specs.Graph.{Graph}
use Rattle.zone_graph.specs.Route.{IsIn}
use Rattle.market_model.specs.declared.command.Command.{Command}
use Rattle.market_model.specs.declared.event.Event.{Event}
use Rattle.market_model.specs.declared.event.Event.TheVariants as event
use Rattle.market_model.specs.declared.setup.Setup.{Setup}
use Rattle.market_model.specs.Grid.{graph_of}
use Rattle.market_model.specs.History.{and_then, events_of}
use Rattle.market_model.specs.Lines.{can_trade, rooms_for}
use Rattle.market_model.specs.Market.{reply_to}
use Rattle.market_model.specs.Orders.{Placed, is_open, placed, standing}
use Rattle.market_model.specs.WellFormed.{IsHistory, IsMarketSetup}

-- no two open orders of one contract can trade
abbrev pub IsUncrossedBook : Graph → List Event → Type 0
IsUncrossedBook graph events = (buy sell : Placed)
    → IsIn buy (placed events) → IsIn sell (placed events) → is_open events buy.name ≡ true → is_open events sell.name ≡ true
    → buy.order.contract ≡ sell.order.contract → buy.order.side ≡ Buy → sell.order.side ≡ Sell
    → can_trade graph (rooms_for events (standing events buy)) (standing events buy) (standing events sell) ≡ false

-- a reply after a well-formed history leaves no two such orders where there were none
abbrev pub RepliesKeepBooksUncrossed : Type 0
RepliesKeepBooksUncrossed = (setup : Setup) (events : List Event) (caller : ℕ) (given : Command) → IsMarketSetup setup → IsHistory setup events
    → IsUncrossedBook (graph_of setup) events → IsUncrossedBook (graph_of setup) (events ++ events_of (reply_to setup events caller given))

-- a withdrawal enables no two orders to trade, so that no sweep need follow it
abbrev pub WithdrawalsEnableNoTrade : Type 0
WithdrawalsEnableNoTrade = (graph : Graph) (events : List Event) (name : OrderName) (lots : ℕ)
    → IsUncrossedBook graph events → IsUncrossedBook graph (and_then events (event.Withdrawn name lots))

-- and no reduction does
abbrev pub ReductionsEnableNoTrade : Type 0
ReductionsEnableNoTrade = (graph : Graph) (events : List Event) (name : OrderName) (by : ℕ)
    → IsUncrossedBook graph events → IsUncrossedBook graph (and_then events (event.Reduced name by))
