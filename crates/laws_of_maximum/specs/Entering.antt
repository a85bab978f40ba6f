-- What the orders obtain that enter by the entries of a journal.
use Rattle.std.specs.Prelude.{◌≡◌, ℕ, ◌≤◌, ◌⊎◌, List, [], ◌∷◌, ◌++◌}
use Rattle.order_kinds.specs.declared.order.Order.{Order}
use Rattle.zone_graph.specs.Graph.{Graph}
use Rattle.zone_graph.specs.Route.{IsIn}
use Rattle.market_model.specs.declared.command.Command.{Command}
use Rattle.market_model.specs.declared.command.Command.TheVariants as command
use Rattle.market_model.specs.declared.entry.Entry.{Entry}
use Rattle.market_model.specs.declared.event.Event.{Event}
use Rattle.market_model.specs.declared.event.Event.TheVariants as event
use Rattle.market_model.specs.declared.reply.Reply.TheVariants as reply
use Rattle.market_model.specs.declared.setup.Setup.{Setup}
use Rattle.market_model.specs.Certificate.{bound_of, unfilled_zones}
use Rattle.market_model.specs.Entering.{legs_taken, name_of_next}
use Rattle.market_model.specs.Grid.{graph_of}
use Rattle.market_model.specs.History.{journal_events}
use Rattle.market_model.specs.Market.{Turn, run_of}
use Rattle.market_model.specs.WellFormed.{IsMarketSetup}
use Rattle.laws_of_maximum.specs.FlowPlan.{FlowPlan, IsPlanFor, orders_met, value_of}
use Rattle.laws_of_maximum.specs.Takings.{HasNoDelta, obtained}

-- the orders that a command enters
abbrev pub orders_entered : Command → List Order
orders_entered (command.Enter order) = order ∷ []
orders_entered (command.EnterBasket orders) = orders
orders_entered _ = []

-- among events that happen after others an order enters, and its legs follow: those that it takes after the events before
-- its entry. It obtains by them its whole quantity, or exactly the bound of the zones that are still in reach when its
-- taking ends; and no flow plan for it is worth more, unless it is filled
pub record ObtainsTheMost (graph : Graph) (start : List Event) (caller : ℕ) (order : Order) (events : List Event) : Type 0 where
  pub before : List Event
  pub after : List Event
  pub enters : events ≡ before ++ (event.Entered (name_of_next (start ++ before) order) caller order ∷ (legs_taken graph (start ++ before) caller order ++ after))
  pub reaches : (obtained graph (start ++ before) caller order ≡ order.quantity.0)
      ⊎ (obtained graph (start ++ before) caller order ≡ bound_of graph (start ++ before) caller order (unfilled_zones graph (start ++ before) caller order))
  pub most : (plan : FlowPlan) → IsPlanFor graph (start ++ before) caller order plan
      → (obtained graph (start ++ before) caller order ≡ order.quantity.0)
      ⊎ (value_of (orders_met (start ++ before) caller order) plan ≤ obtained graph (start ++ before) caller order)

-- so in every journal: each order that an entry enters, alone or in a basket, obtains the most after the entries before it; of
-- icebergs this is said of those at one price
abbrev pub JournalsObtainTheMost : Type 0
JournalsObtainTheMost = (setup : Setup) (turns : List Turn) (before after : List Entry) (entry : Entry) (events : List Event) (order : Order) → IsMarketSetup setup
    → run_of setup turns ≡ before ++ (entry ∷ after) → entry.reply ≡ reply.Done events → IsIn order (orders_entered entry.command) → HasNoDelta order.kind
    → ObtainsTheMost (graph_of setup) (journal_events before) entry.caller order events
