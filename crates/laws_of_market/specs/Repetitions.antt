-- The repetitions of the market with their fuel are the runs that a reader believes: each item is the
-- next one, and after the last there is none. A run is unique, so it is the one that is computed.
use Rattle.std.specs.Prelude.{◌≡◌, ◌↔◌, ℕ, List}
use Rattle.order_kinds.specs.declared.contract.Part.{Part}
use Rattle.order_kinds.specs.declared.order.OrderName.{OrderName}
use Rattle.market_model.specs.declared.event.Event.{Event}
use Rattle.market_model.specs.declared.setup.Setup.{Setup}
use Rattle.market_model.specs.Blocks.{AreBlockDeals, IsBlockPour, block_deals, block_legs, block_partner, standing_block, StandingBlock}
use Rattle.market_model.specs.Grid.{graph_of}
use Rattle.market_model.specs.Orders.{PlacedBlock}
use Rattle.market_model.specs.Sweep.{IsSweep, sweep}
use Rattle.market_model.specs.Taking.{IsTaking, take}
use Rattle.market_model.specs.WellFormed.{IsHistory, IsMarketSetup, IsOpenBlock}
use Rattle.std.specs.Prelude.{Some}

-- takings
abbrev pub TakingsAreRuns : Type 0
TakingsAreRuns = (setup : Setup) (events : List Event) (name : OrderName) (legs : List Event) → IsMarketSetup setup → IsHistory setup events
    → IsTaking (graph_of setup) events name legs ↔ (legs ≡ take (graph_of setup) events name)

-- sweeps
abbrev pub SweepsAreRuns : Type 0
SweepsAreRuns = (setup : Setup) (parts : List Part) (hour : ℕ) (events : List Event) (legs : List Event) → IsMarketSetup setup → IsHistory setup events
    → IsSweep parts (graph_of setup) hour events legs ↔ (legs ≡ sweep parts (graph_of setup) hour events)

-- the pour of an open block with its partner
abbrev pub PoursAreRuns : Type 0
PoursAreRuns = (setup : Setup) (events : List Event) (block : PlacedBlock) (partner : StandingBlock) (legs : List Event) → IsMarketSetup setup → IsHistory setup events
    → IsOpenBlock events block block.name → block_partner (graph_of setup) events (standing_block events block) ≡ Some partner
    → IsBlockPour (graph_of setup) (standing_block events block) partner events legs ↔ (legs ≡ block_legs (graph_of setup) (standing_block events block) partner events)

-- the deals of a period
abbrev pub DealsAreRuns : Type 0
DealsAreRuns = (setup : Setup) (first last : ℕ) (events : List Event) (deals : List (List Event)) → IsMarketSetup setup → IsHistory setup events
    → AreBlockDeals (graph_of setup) first last events deals ↔ (deals ≡ block_deals (graph_of setup) first last events)
