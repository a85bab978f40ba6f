-- What the flows of an hour that stand for a list of events say, and what each event makes of them.
-- The changes are those of the calls that keep the flows.
use Rattle.std.specs.Prelude.{◌≡◌, ◌↔◌, ℕ, ◌==◌, ◌||◌, Bool, true, false, List, []}
use Rattle.order_kinds.specs.declared.contract.Contract.{Contract}
use Rattle.order_kinds.specs.declared.contract.Part.TheVariants as part
use Rattle.order_kinds.specs.declared.contract.Quarter.{Quarter}
use Rattle.order_kinds.specs.declared.phase.Phase.{Phase}
use Rattle.order_kinds.specs.Contract.{is_known}
use Rattle.order_kinds.specs.Period.{EachQuarter, contract_quarters, is_within, quarter_of, range_has}
use Rattle.zone_graph.specs.declared.route.Arc.{Arc}
use Rattle.zone_graph.specs.Graph.{Graph, HasArc}
use Rattle.zone_graph.specs.Pour.{same_arc, uses}
use Rattle.market_model.specs.declared.event.Event.{Event}
use Rattle.market_model.specs.declared.event.Event.TheVariants as event
use Rattle.market_model.specs.declared.event.Leg.{Leg}
use Rattle.market_model.specs.declared.setup.Setup.{Setup}
use Rattle.market_model.specs.Capacity.{remaining}
use Rattle.market_model.specs.History.{and_then, of_hour, touches}
use Rattle.market_model.specs.Room.{room}
use Rattle.market_model.specs.WellFormed.{FitAfter, Fits}
use Rattle.flow_netting.specs.declared.quarter_set.QuarterSet.{QuarterSet}
use Rattle.flow_netting.specs.Flows.{Flows, remaining_of, room_of}
use Rattle.flow_netting.specs.QuarterSet.{has}
use Rattle.laws_of_hours.specs.Standing.{IsCarried, IsHaltSet, IsIdle, IsOffered, IsSetOf, Stands}

-- the room of an arc over the quarters of a contract is the market's
abbrev pub RoomsAreTheMarkets : Type 0
RoomsAreTheMarkets = (graph : Graph) (events : List Event) (contract : Contract) (flows : Flows) (set : QuarterSet) (arc : Arc)
    → Stands graph events contract.hour flows → is_known contract.part ≡ true → IsSetOf set contract.part → HasArc graph arc
    → room_of flows set arc ≡ room events (contract_quarters contract) arc

-- and so is what remains on it in a quarter
abbrev pub RemainingIsTheMarkets : Type 0
RemainingIsTheMarkets = (graph : Graph) (events : List Event) (hour : ℕ) (flows : Flows) (arc : Arc) → Stands graph events hour flows → HasArc graph arc
    → EachQuarter (λ number. remaining_of flows arc number ≡ remaining events (quarter_of hour number) arc)

-- idle flows stand for no event
abbrev pub FlowsBeginIdle : Type 0
FlowsBeginIdle = (graph : Graph) (hour : ℕ) (flows : Flows) → IsIdle graph flows → Stands graph [] hour flows

-- the events of an hour alone have its flows
abbrev pub HoursHaveTheirFlows : Type 0
HoursHaveTheirFlows = (setup : Setup) (graph : Graph) (events : List Event) (hour : ℕ) (flows : Flows) → FitAfter setup [] events
    → Stands graph (of_hour hour events) hour flows ↔ Stands graph events hour flows

-- an event is nothing to the flows of an hour: an entry, a withdrawal, a reduction, or one that does not
-- touch the hour
abbrev pub LeavesTheFlows : (hour : ℕ) → Event → Type 0
LeavesTheFlows hour (event.Entered name caller order) = Unit {0}
LeavesTheFlows hour (event.EnteredBlock name caller order) = Unit {0}
LeavesTheFlows hour (event.Withdrawn name lots) = Unit {0}
LeavesTheFlows hour (event.Reduced name by) = Unit {0}
LeavesTheFlows hour event = touches hour event ≡ false

-- such an event leaves them as they were
abbrev pub OtherEventsLeaveTheFlows : Type 0
OtherEventsLeaveTheFlows = (setup : Setup) (graph : Graph) (events : List Event) (event : Event) (hour : ℕ) (flows : Flows) → FitAfter setup [] events
    → Fits setup events event → Stands graph events hour flows → LeavesTheFlows hour event → Stands graph (and_then events event) hour flows

-- a leg carries its lots over its route in the quarters of its contract
abbrev pub LegsStand : Type 0
LegsStand = (graph : Graph) (events : List Event) (contract : Contract) (leg : Leg) (set : QuarterSet) (old new : Flows)
    → Stands graph events contract.hour old → IsSetOf set contract.part → IsCarried (uses leg.route) (has set) leg.lots old new
    → Stands graph (and_then events (event.Leg contract leg)) contract.hour new

-- a leg of blocks carries them in all quarters of each hour of the period
abbrev pub BlockLegsStand : Type 0
BlockLegsStand = (graph : Graph) (events : List Event) (first last : ℕ) (leg : Leg) (set : QuarterSet) (hour : ℕ) (old new : Flows)
    → Stands graph events hour old → is_within first last hour ≡ true → IsSetOf set part.Hour → IsCarried (uses leg.route) (has set) leg.lots old new
    → Stands graph (and_then events (event.BlockLeg first last leg)) hour new

-- the quarters that count are those of an hour that are in a range
abbrev pub IsRangeIn : (hour : ℕ) → (first last : Quarter) → (counts : (number : ℕ) → Bool) → Type 0
IsRangeIn hour first last counts = EachQuarter (λ number. counts number ≡ range_has first last (quarter_of hour number))

-- a grant has its lots flow over its arc in the quarters of its range that are in the hour
abbrev pub GrantsStand : Type 0
GrantsStand = (graph : Graph) (events : List Event) (arc : Arc) (first last : Quarter) (lots hour : ℕ) (counts : (number : ℕ) → Bool) (old new : Flows)
    → Stands graph events hour old → IsRangeIn hour first last counts → IsCarried (same_arc arc) counts lots old new
    → Stands graph (and_then events (event.Granted arc first last lots)) hour new

-- an offer has its lots offered on its arc in those quarters
abbrev pub OffersStand : Type 0
OffersStand = (graph : Graph) (events : List Event) (arc : Arc) (first last : Quarter) (lots hour : ℕ) (counts : (number : ℕ) → Bool) (old new : Flows)
    → Stands graph events hour old → IsRangeIn hour first last counts → IsOffered arc counts lots old new
    → Stands graph (and_then events (event.Offered arc first last lots)) hour new

-- a halt has its border halted in each of its hours
abbrev pub HaltsStand : Type 0
HaltsStand = (graph : Graph) (events : List Event) (border first last hour : ℕ) (old new : Flows)
    → Stands graph events hour old → is_within first last hour ≡ true → IsHaltSet border true old new
    → Stands graph (and_then events (event.Halted border first last)) hour new

-- and a resumption has trade over it going on
abbrev pub ResumptionsStand : Type 0
ResumptionsStand = (graph : Graph) (events : List Event) (border first last hour : ℕ) (old new : Flows)
    → Stands graph events hour old → is_within first last hour ≡ true → IsHaltSet border false old new
    → Stands graph (and_then events (event.Resumed border first last)) hour new

-- a gate gives its hour the phase
abbrev pub GatesStand : Type 0
GatesStand = (graph : Graph) (events : List Event) (hour : ℕ) (phase : Phase) (old : Flows) → Stands graph events hour old
    → Stands graph (and_then events (event.Gated hour phase)) hour (record old { phase = phase })

-- in no quarter nothing is carried
abbrev pub NothingIsCarried : Type 0
NothingIsCarried = (carries : Arc → Bool) (lots : ℕ) (flows : Flows) → IsCarried carries (λ number. false) lots flows flows

-- lots that are carried in some quarters and then in one that is none of them are carried in these and in it
abbrev pub QuartersAreCarriedInTurn : Type 0
QuartersAreCarriedInTurn = (carries : Arc → Bool) (counts more : (number : ℕ) → Bool) (number lots : ℕ) (old mid new : Flows)
    → IsCarried carries counts lots old mid → counts number ≡ false → IsCarried carries (λ quarter. quarter == number) lots mid new
    → EachQuarter (λ quarter. more quarter ≡ ((quarter == number) || counts quarter)) → IsCarried carries more lots old new

-- in no quarter nothing is offered
abbrev pub NothingIsOffered : Type 0
NothingIsOffered = (arc : Arc) (lots : ℕ) (flows : Flows) → IsOffered arc (λ number. false) lots flows flows

-- lots that are offered in some quarters and then in one are offered in these and in it
abbrev pub QuartersAreOfferedInTurn : Type 0
QuartersAreOfferedInTurn = (arc : Arc) (counts more : (number : ℕ) → Bool) (number lots : ℕ) (old mid new : Flows)
    → IsOffered arc counts lots old mid → IsOffered arc (λ quarter. quarter == number) lots mid new
    → EachQuarter (λ quarter. more quarter ≡ ((quarter == number) || counts quarter)) → IsOffered arc more lots old new
