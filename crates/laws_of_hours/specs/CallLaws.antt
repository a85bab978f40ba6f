-- What an event of a legal history changes can be changed in flows that stand for the events before it:
-- what the calls that keep the flows ask holds.
use Rattle.std.specs.Prelude.{◌≡◌, ℕ, ◌<◌, ◌≤◌, true, List, [], pos, ◌≤ℤ◌}
use Rattle.order_kinds.specs.declared.contract.Contract.{Contract}
use Rattle.order_kinds.specs.declared.contract.Part.TheVariants as part
use Rattle.order_kinds.specs.declared.contract.Quarter.{Quarter}
use Rattle.order_kinds.specs.Period.{EachQuarter, is_within, quarter_of, range_has}
use Rattle.quarter_capacity.specs.Capacity.{most_offered}
use Rattle.zone_graph.specs.declared.route.Arc.{Arc}
use Rattle.market_model.specs.declared.event.Event.{Event}
use Rattle.market_model.specs.declared.event.Event.TheVariants as event
use Rattle.market_model.specs.declared.event.Leg.{Leg}
use Rattle.market_model.specs.declared.setup.Setup.{Setup}
use Rattle.market_model.specs.Grid.{graph_of}
use Rattle.market_model.specs.WellFormed.{FitAfter, Fits}
use Rattle.flow_netting.specs.declared.quarter_set.QuarterSet.{QuarterSet}
use Rattle.flow_netting.specs.Flows.{Flows, HasLotsLeft, IsOverBorders, border_count, flow_of, remaining_of}
use Rattle.laws_of_hours.specs.Standing.{IsSetOf, Stands}

-- lots can be carried over a route in the quarters of a set
pub record CanCarry (flows : Flows) (route : List Arc) (set : QuarterSet) (lots : ℕ) : Type 0 where
  pub borders : IsOverBorders flows.borders route
  pub room : HasLotsLeft flows.borders route set lots

-- those of a leg can be, in the quarters of its contract
abbrev pub LegsCanBeCarried : Type 0
LegsCanBeCarried = (setup : Setup) (events : List Event) (contract : Contract) (leg : Leg) (set : QuarterSet) (flows : Flows) → FitAfter setup [] events
    → Fits setup events (event.Leg contract leg) → Stands (graph_of setup) events contract.hour flows → IsSetOf set contract.part
    → CanCarry flows leg.route set leg.lots

-- and those of a leg of blocks, in all quarters of each hour of the period
abbrev pub BlockLegsCanBeCarried : Type 0
BlockLegsCanBeCarried = (setup : Setup) (events : List Event) (first last : ℕ) (leg : Leg) (set : QuarterSet) (hour : ℕ) (flows : Flows) → FitAfter setup [] events
    → Fits setup events (event.BlockLeg first last leg) → Stands (graph_of setup) events hour flows → is_within first last hour ≡ true → IsSetOf set part.Hour
    → CanCarry flows leg.route set leg.lots

-- lots can be granted on an arc in each quarter of a range that is in the hour
pub record CanGrant (flows : Flows) (arc : Arc) (hour : ℕ) (first last : Quarter) (lots : ℕ) : Type 0 where
  pub border : arc.border < border_count flows
  pub room : EachQuarter (λ number. range_has first last (quarter_of hour number) ≡ true → pos lots ≤ℤ remaining_of flows arc number)

-- those of a grant can be
abbrev pub GrantsCanBeMade : Type 0
GrantsCanBeMade = (setup : Setup) (events : List Event) (arc : Arc) (first last : Quarter) (lots hour : ℕ) (flows : Flows) → FitAfter setup [] events
    → Fits setup events (event.Granted arc first last lots) → Stands (graph_of setup) events hour flows → CanGrant flows arc hour first last lots

-- lots can be offered on an arc in each quarter of a range that is in the hour, and no offer is refused
pub record CanOffer (flows : Flows) (arc : Arc) (hour : ℕ) (first last : Quarter) (lots : ℕ) : Type 0 where
  pub border : arc.border < border_count flows
  pub most : lots ≤ most_offered
  pub covers : EachQuarter (λ number. range_has first last (quarter_of hour number) ≡ true → flow_of flows arc number ≤ℤ pos lots)

-- those of an offer can be
abbrev pub OffersCanBeMade : Type 0
OffersCanBeMade = (setup : Setup) (events : List Event) (arc : Arc) (first last : Quarter) (lots hour : ℕ) (flows : Flows)
    → Fits setup events (event.Offered arc first last lots) → Stands (graph_of setup) events hour flows → CanOffer flows arc hour first last lots
