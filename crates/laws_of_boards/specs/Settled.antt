-- What is settled: after a journal nothing is left to trade in an hour, by the hour's own events.
use Rattle.std.specs.Prelude.{◌≡◌, ℕ, false, List, [], None}
use Rattle.order_kinds.specs.declared.contract.Part.{Part}
use Rattle.order_kinds.specs.declared.side.Side.TheVariants.{Buy, Sell}
use Rattle.zone_graph.specs.Graph.{Graph}
use Rattle.zone_graph.specs.Route.{IsIn}
use Rattle.market_model.specs.declared.entry.Entry.{Entry}
use Rattle.market_model.specs.declared.event.Event.{Event}
use Rattle.market_model.specs.declared.setup.Setup.{Setup}
use Rattle.market_model.specs.Concerned.{left_for}
use Rattle.market_model.specs.Grid.{graph_of}
use Rattle.market_model.specs.History.{of_hour}
use Rattle.market_model.specs.Lines.{can_trade, line, rooms_for}
use Rattle.market_model.specs.Market.{IsLegal}
use Rattle.market_model.specs.Orders.{Standing}
use Rattle.market_model.specs.Sweep.{leg_in, sweep}
use Rattle.market_model.specs.WellFormed.{FitAfter, IsMarketSetup}
use Rattle.laws_of_market.specs.UncrossedBook.{IsUncrossedBook}

-- an hour is settled after some events: no part of it has a leg in a sweep, no two of its open orders can
-- trade, and its sweep has no leg
pub record IsSettled (graph : Graph) (hour : ℕ) (events : List Event) : Type 0 where
  pub no_leg : (part : Part) → leg_in graph events (record { hour = hour; part = part }) ≡ None
  pub no_pair : (part : Part) (buy sell : Standing) → IsIn buy (line events (record { hour = hour; part = part }) Buy)
      → IsIn sell (line events (record { hour = hour; part = part }) Sell) → can_trade graph (rooms_for events buy) buy sell ≡ false
  pub no_sweep : (parts : List Part) → sweep parts graph hour events ≡ []

-- after a history that leaves no two orders to trade each hour is settled, by its own events
abbrev pub UncrossedHoursAreSettled : Type 0
UncrossedHoursAreSettled = (setup : Setup) (events : List Event) (hour : ℕ) → FitAfter setup [] events → IsUncrossedBook (graph_of setup) events
    → IsSettled (graph_of setup) hour (of_hour hour events)

-- so it is after a legal journal
abbrev pub SettledHoursAreQuiet : Type 0
SettledHoursAreQuiet = (setup : Setup) (entries : List Entry) (hour : ℕ) → IsMarketSetup setup → IsLegal setup entries
    → IsSettled (graph_of setup) hour (left_for hour entries)
