-- What is true of every well-formed history, and that every history of a journal is one.
use Rattle.std.specs.Prelude.{◌≡◌, ◌≢◌, ℕ, ◌+◌, ◌≤◌, true, List, ◌++◌}
use Rattle.order_kinds.specs.declared.contract.Contract.{Contract}
use Rattle.order_kinds.specs.declared.contract.Part.{Part}
use Rattle.order_kinds.specs.declared.order.OrderName.{OrderName}
use Rattle.zone_graph.specs.Route.{IsIn}
use Rattle.market_model.specs.declared.command.Command.{Command}
use Rattle.market_model.specs.declared.event.Event.{Event}
use Rattle.market_model.specs.declared.event.Event.TheVariants as event
use Rattle.market_model.specs.declared.event.Leg.{Leg}
use Rattle.market_model.specs.declared.setup.Setup.{Setup}
use Rattle.market_model.specs.History.{and_then, events_of, journal_events}
use Rattle.market_model.specs.Market.{Turn, reply_by, run_by}
use Rattle.market_model.specs.Orders.{Placed, PlacedBlock, blocks_placed, entered, filled, is_open, left, placed, standing, taken_off}
use Rattle.market_model.specs.WellFormed.{BlockLegFits, IsHistory, IsMarketSetup, LegFits}

-- every reply keeps a history well-formed, whichever parts its sweeps try
abbrev pub RepliesKeepHistories : Type 0
RepliesKeepHistories = (setup : Setup) (parts : List Part) (events : List Event) (caller : ℕ) (given : Command) → IsMarketSetup setup
    → IsHistory setup events → IsHistory setup (events ++ events_of (reply_by parts setup events caller given))

-- so the history of every journal is well-formed
abbrev pub JournalsAreHistories : Type 0
JournalsAreHistories = (setup : Setup) (parts : List Part) (turns : List Turn) → IsMarketSetup setup
    → IsHistory setup (journal_events (run_by parts setup turns))

-- what is left, filled and taken off of an order or block is together what was entered: none of them
-- falls below nothing
abbrev pub NothingFallsBelowZero : Type 0
NothingFallsBelowZero = (setup : Setup) (events : List Event) (name : OrderName) → IsHistory setup events
    → left events name + filled events name + taken_off events name ≡ entered events name

-- an open order shows something, and no more than is left of it
abbrev pub OrdersShowWhatIsLeft : Type 0
OrdersShowWhatIsLeft = (setup : Setup) (events : List Event) (order : Placed) → IsHistory setup events → IsIn order (placed events)
    → is_open events order.name ≡ true → (1 ≤ (standing events order).shown) × ((standing events order).shown ≤ (standing events order).left)

-- a leg lowers both its orders by its lots
abbrev pub LegsLowerBoth : Type 0
LegsLowerBoth = (setup : Setup) (events : List Event) (contract : Contract) (leg : Leg) → LegFits setup events contract leg
    → let after = and_then events (event.Leg contract leg) in
    (left after leg.taker + leg.lots ≡ left events leg.taker) × (left after leg.maker + leg.lots ≡ left events leg.maker)

-- and a leg of blocks both its blocks
abbrev pub BlockLegsLowerBoth : Type 0
BlockLegsLowerBoth = (setup : Setup) (events : List Event) (first last : ℕ) (leg : Leg) → BlockLegFits setup events first last leg
    → let after = and_then events (event.BlockLeg first last leg) in
    (left after leg.taker + leg.lots ≡ left events leg.taker) × (left after leg.maker + leg.lots ≡ left events leg.maker)

-- a name is of one order or of one block
abbrev pub NamesAreGivenOnce : Type 0
NamesAreGivenOnce = (setup : Setup) (events : List Event) → IsHistory setup events
    → ((a b : Placed) → IsIn a (placed events) → IsIn b (placed events) → a.name ≡ b.name → a ≡ b)
    × ((a b : PlacedBlock) → IsIn a (blocks_placed events) → IsIn b (blocks_placed events) → a.name ≡ b.name → a ≡ b)
    × ((order : Placed) (block : PlacedBlock) → IsIn order (placed events) → IsIn block (blocks_placed events) → order.name ≢ block.name)
