-- What a refusal as unfilled says: that no flow plan fills the order.
use Rattle.std.specs.Prelude.{◌≡◌, ℕ, ◌<◌, true, List, ◌∷◌, ◌++◌}
use Rattle.order_kinds.specs.declared.order.Kind.TheVariants as kind
use Rattle.order_kinds.specs.declared.order.Order.{Order}
use Rattle.zone_graph.specs.Graph.{Graph}
use Rattle.zone_graph.specs.Route.{IsIn, has}
use Rattle.market_model.specs.declared.command.Command.{Command}
use Rattle.market_model.specs.declared.command.Command.TheVariants as command
use Rattle.market_model.specs.declared.entry.Entry.{Entry}
use Rattle.market_model.specs.declared.event.Event.{Event}
use Rattle.market_model.specs.declared.refusal.Refusal.TheVariants as refusal
use Rattle.market_model.specs.declared.reply.Reply.TheVariants as reply
use Rattle.market_model.specs.declared.setup.Setup.{Setup}
use Rattle.market_model.specs.Certificate.{bound_of, unfilled_zones}
use Rattle.market_model.specs.Grid.{graph_of}
use Rattle.market_model.specs.History.{journal_events}
use Rattle.market_model.specs.Market.{Turn, reply_to, run_of}
use Rattle.market_model.specs.WellFormed.{IsHistory, IsMarketSetup}
use Rattle.laws_of_maximum.specs.FlowPlan.{FlowPlan, IsPlanFor, orders_met, value_of}
use Rattle.laws_of_maximum.specs.Takings.{obtained}

-- zones and a bound certify that an order cannot be filled: the zones are those that are still in
-- reach when its taking ends, and have its own; the bound is theirs, it is what the order would
-- obtain, and below its quantity; so every flow plan for it is worth less than its quantity
pub record IsCertified (graph : Graph) (events : List Event) (caller : ℕ) (order : Order) (zones : List ℕ) (bound : ℕ) : Type 0 where
  pub in_reach : zones ≡ unfilled_zones graph events caller order
  pub have_own : has order.zone zones ≡ true
  pub is_bound : bound ≡ bound_of graph events caller order zones
  pub is_most : bound ≡ obtained graph events caller order
  pub below : bound < order.quantity.0
  pub no_plan_fills : (plan : FlowPlan) → IsPlanFor graph events caller order plan → value_of (orders_met events caller order) plan < order.quantity.0

-- the command enters a fill-or-kill order of which zones and a bound certify that it cannot be filled
pub record IsUnfilledOrder (graph : Graph) (events : List Event) (caller : ℕ) (given : Command) (zones : List ℕ) (bound : ℕ) : Type 0 where
  pub order : Order
  pub is : given ≡ command.Enter order
  pub is_fill_or_kill : order.kind ≡ kind.Fok
  pub certified : IsCertified graph events caller order zones bound

-- the command enters a basket with such an order of an hour
pub record IsUnfilledBasket (graph : Graph) (events : List Event) (caller : ℕ) (given : Command) (hour : ℕ) (zones : List ℕ) (bound : ℕ) : Type 0 where
  pub orders : List Order
  pub order : Order
  pub is : given ≡ command.EnterBasket orders
  pub is_in : IsIn order orders
  pub in_hour : hour ≡ order.contract.hour
  pub is_fill_or_kill : order.kind ≡ kind.Fok
  pub certified : IsCertified graph events caller order zones bound

-- after a well-formed history a command is refused as unfilled only so
abbrev pub UnfilledIsCertified : Type 0
UnfilledIsCertified = (setup : Setup) (events : List Event) (caller : ℕ) (given : Command) (zones : List ℕ) (bound : ℕ) → IsMarketSetup setup → IsHistory setup events
    → reply_to setup events caller given ≡ reply.Refused (refusal.Unfilled zones bound) → IsUnfilledOrder (graph_of setup) events caller given zones bound

abbrev pub BasketUnfilledIsCertified : Type 0
BasketUnfilledIsCertified = (setup : Setup) (events : List Event) (caller : ℕ) (given : Command) (hour : ℕ) (zones : List ℕ) (bound : ℕ) → IsMarketSetup setup
    → IsHistory setup events → reply_to setup events caller given ≡ reply.Refused (refusal.BasketUnfilled hour zones bound)
    → IsUnfilledBasket (graph_of setup) events caller given hour zones bound

-- so in every journal, of each entry that refuses its command as unfilled, after the entries before it
abbrev pub JournalsRefuseAsCertified : Type 0
JournalsRefuseAsCertified = (setup : Setup) (turns : List Turn) (before after : List Entry) (entry : Entry) (zones : List ℕ) (bound : ℕ) → IsMarketSetup setup
    → run_of setup turns ≡ before ++ (entry ∷ after) → entry.reply ≡ reply.Refused (refusal.Unfilled zones bound)
    → IsUnfilledOrder (graph_of setup) (journal_events before) entry.caller entry.command zones bound

abbrev pub JournalsRefuseBasketsAsCertified : Type 0
JournalsRefuseBasketsAsCertified = (setup : Setup) (turns : List Turn) (before after : List Entry) (entry : Entry) (hour : ℕ) (zones : List ℕ) (bound : ℕ) → IsMarketSetup setup
    → run_of setup turns ≡ before ++ (entry ∷ after) → entry.reply ≡ reply.Refused (refusal.BasketUnfilled hour zones bound)
    → IsUnfilledBasket (graph_of setup) (journal_events before) entry.caller entry.command hour zones bound
