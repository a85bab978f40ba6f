-- What else is to be true of every legal history. These are statements; each is proved only where
-- the contract of a function says it.
use Rattle.std.specs.Prelude.{◌≡◌, ℕ, Bool, true, false, List, ◌∷◌, ◌++◌, pos, ◌≤ℤ◌}
use Rattle.std.specs.List.{list_any}
use Rattle.order_kinds.specs.declared.contract.Part.{Part}
use Rattle.order_kinds.specs.declared.contract.Part.TheVariants as part
use Rattle.order_kinds.specs.declared.contract.Quarter.{Quarter}
use Rattle.order_kinds.specs.declared.side.Side.TheVariants.{Buy, Sell}
use Rattle.order_kinds.specs.Period.{is_quarter}
use Rattle.zone_graph.specs.declared.route.Arc.{Arc}
use Rattle.zone_graph.specs.Graph.{HasArc}
use Rattle.zone_graph.specs.Route.{IsIn}
use Rattle.market_model.specs.declared.command.Command.{Command}
use Rattle.market_model.specs.declared.event.Event.{Event}
use Rattle.market_model.specs.declared.setup.Setup.{Setup}
use Rattle.market_model.specs.Capacity.{allocated_by, remaining}
use Rattle.market_model.specs.Grid.{graph_of}
use Rattle.market_model.specs.History.{events_of, journal_events, of_hour, touches}
use Rattle.market_model.specs.Lines.{can_trade, rooms_for}
use Rattle.market_model.specs.Market.{Turn, reply_to, run_by, run_of}
use Rattle.market_model.specs.Orders.{Placed, is_open, placed, standing}
use Rattle.market_model.specs.Rules.{parts_named, touched_hours}
use Rattle.market_model.specs.Sweep.{all_parts, parts_without_halves}
use Rattle.market_model.specs.WellFormed.{IsMarketSetup}
use Rattle.quarter_capacity.specs.Capacity.{most_remaining}

-- the history of the journal of some turns
abbrev pub history_of : Setup → List Turn → List Event
history_of setup turns = journal_events (run_of setup turns)

-- locality: a reply depends on the events of the hours that its command touches alone
abbrev pub RepliesAreLocal : Type 0
RepliesAreLocal = (setup : Setup) (turns others : List Turn) (caller : ℕ) (given : Command) → IsMarketSetup setup
    → ((hour : ℕ) → IsIn hour (touched_hours setup caller given)
    → of_hour hour (history_of setup turns) ≡ of_hour hour (history_of setup others))
    → reply_to setup (history_of setup turns) caller given ≡ reply_to setup (history_of setup others) caller given

-- and it brings about no event that touches another hour
abbrev pub EventsStayInTheirHours : Type 0
EventsStayInTheirHours = (setup : Setup) (turns : List Turn) (caller : ℕ) (given : Command) (event : Event) (hour : ℕ) → IsMarketSetup setup
    → IsIn event (events_of (reply_to setup (history_of setup turns) caller given)) → touches hour event ≡ true
    → IsIn hour (touched_hours setup caller given)

-- capacity: after every entry each arc has in each quarter something from nothing to 200000.0 MW
-- remaining
abbrev pub CapacityRemains : Type 0
CapacityRemains = (setup : Setup) (turns : List Turn) (quarter : Quarter) (arc : Arc) → IsMarketSetup setup
    → HasArc (graph_of setup) arc → is_quarter quarter ≡ true
    → (pos 0 ≤ℤ remaining (history_of setup turns) quarter arc) × (remaining (history_of setup turns) quarter arc ≤ℤ pos most_remaining)

-- and each leg, leg of blocks and grant uses no more than remained just before it
abbrev pub NothingIsOversold : Type 0
NothingIsOversold = (setup : Setup) (turns : List Turn) (before after : List Event) (event : Event) (quarter : Quarter) (arc : Arc) → IsMarketSetup setup
    → history_of setup turns ≡ before ++ (event ∷ after) → HasArc (graph_of setup) arc → is_quarter quarter ≡ true
    → pos (allocated_by quarter arc event) ≤ℤ remaining before quarter arc

-- nothing left to trade: after every entry no two open orders of one contract can trade
abbrev pub NothingLeftToTrade : Type 0
NothingLeftToTrade = (setup : Setup) (turns : List Turn) (buy sell : Placed) → IsMarketSetup setup
    → let events = history_of setup turns in
    IsIn buy (placed events) → IsIn sell (placed events) → is_open events buy.name ≡ true → is_open events sell.name ≡ true
    → buy.order.contract ≡ sell.order.contract → buy.order.side ≡ Buy → sell.order.side ≡ Sell
    → can_trade (graph_of setup) (rooms_for events (standing events buy)) (standing events buy) (standing events sell) ≡ false

-- a part is a half of an hour
abbrev pub is_half : Part → Bool
is_half (part.Half number) = true
is_half _ = false

-- half hours: turns that name none have the same journal in a market without them
abbrev pub HalvesChangeNothingElse : Type 0
HalvesChangeNothingElse = (setup : Setup) (turns : List Turn) → IsMarketSetup setup
    → ((turn : Turn) → IsIn turn turns → list_any is_half (parts_named turn.command) ≡ false)
    → run_by all_parts setup turns ≡ run_by parts_without_halves setup turns
