-- What a reply after a well-formed history does to the capacity of the arcs.
use Rattle.std.specs.Prelude.{◌≡◌, ℕ, List, ◌∷◌, ◌++◌, pos, ◌≤ℤ◌}
use Rattle.order_kinds.specs.declared.contract.Part.{Part}
use Rattle.order_kinds.specs.declared.contract.Quarter.{Quarter}
use Rattle.order_kinds.specs.Period.{range_quarters}
use Rattle.zone_graph.specs.declared.route.Arc.{Arc}
use Rattle.zone_graph.specs.Route.{IsIn}
use Rattle.market_model.specs.declared.command.Command.{Command}
use Rattle.market_model.specs.declared.event.Event.{Event}
use Rattle.market_model.specs.declared.event.Event.TheVariants as event
use Rattle.market_model.specs.declared.setup.Setup.{Setup}
use Rattle.market_model.specs.Capacity.{allocated_by, flow, remaining}
use Rattle.market_model.specs.History.{events_of}
use Rattle.market_model.specs.Market.{reply_by}
use Rattle.market_model.specs.WellFormed.{IsHistory, IsMarketSetup}
use Rattle.quarter_capacity.specs.Capacity.{most_remaining}

-- it leaves from nothing to 200000.0 MW on each arc in each quarter
abbrev pub RepliesLeaveCapacity : Type 0
RepliesLeaveCapacity = (setup : Setup) (parts : List Part) (events : List Event) (caller : ℕ) (given : Command) (quarter : Quarter) (arc : Arc)
    → IsMarketSetup setup → IsHistory setup events
    → let after = events ++ events_of (reply_by parts setup events caller given) in
    (pos 0 ≤ℤ remaining after quarter arc) × (remaining after quarter arc ≤ℤ pos most_remaining)

-- each of its legs, legs of blocks and grants uses no more than remained just before it
abbrev pub RepliesOversellNothing : Type 0
RepliesOversellNothing = (setup : Setup) (parts : List Part) (events : List Event) (caller : ℕ) (given : Command) (before after : List Event) (event : Event)
    (quarter : Quarter) (arc : Arc) → IsMarketSetup setup → IsHistory setup events
    → events_of (reply_by parts setup events caller given) ≡ before ++ (event ∷ after)
    → pos (allocated_by quarter arc event) ≤ℤ remaining (events ++ before) quarter arc

-- an offer that is let in is in no quarter below what flows there
abbrev pub OffersCoverTheFlow : Type 0
OffersCoverTheFlow = (setup : Setup) (parts : List Part) (events : List Event) (caller : ℕ) (given : Command) (before after : List Event) (arc : Arc)
    (first last : Quarter) (lots : ℕ) (quarter : Quarter) → IsMarketSetup setup → IsHistory setup events
    → events_of (reply_by parts setup events caller given) ≡ before ++ (event.Offered arc first last lots ∷ after)
    → IsIn quarter (range_quarters first last) → flow (events ++ before) quarter arc ≤ℤ pos lots
