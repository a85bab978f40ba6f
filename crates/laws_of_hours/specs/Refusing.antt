-- What refuses an offer or a request for capacity, found in the flows of an hour that stand for a list of
-- events: what the tests of these flows answer is the market's refusal.
use Rattle.std.specs.Prelude.{◌≡◌, ℕ, true, List, Option}
use Rattle.std.specs.Option.{option_map}
use Rattle.order_kinds.specs.declared.contract.Quarter.{Quarter}
use Rattle.order_kinds.specs.Period.{EachQuarter, hours_from, is_within, quarter_of, range_quarters}
use Rattle.zone_graph.specs.declared.route.Arc.{Arc}
use Rattle.zone_graph.specs.Graph.{Graph, HasArc}
use Rattle.market_model.specs.declared.event.Event.{Event}
use Rattle.market_model.specs.declared.refusal.Refusal.{Refusal}
use Rattle.market_model.specs.declared.refusal.Refusal.TheVariants as refusal
use Rattle.market_model.specs.Capacity.{flow}
use Rattle.market_model.specs.Refusals.{below_flow, no_room}
use Rattle.market_model.specs.Room.{quarter_room}
use Rattle.market_model.specs.Sweep.{first_answer}
use Rattle.flow_netting.specs.declared.quarter_set.QuarterSet.{QuarterSet}
use Rattle.flow_netting.specs.Flows.{Flows, flow_of}
use Rattle.flow_netting.specs.QuarterSet.{has}
use Rattle.capacity_requests.specs.Requests.{first_flow_above, first_room_below, room_in}
use Rattle.laws_of_hours.specs.FlowLaws.{IsRangeIn}
use Rattle.laws_of_hours.specs.Standing.{Stands}

-- what flows over an arc in a quarter is the market's
abbrev pub QuarterFlowsAreTheMarkets : Type 0
QuarterFlowsAreTheMarkets = (graph : Graph) (events : List Event) (hour : ℕ) (flows : Flows) (arc : Arc) → Stands graph events hour flows → HasArc graph arc
    → EachQuarter (λ number. flow_of flows arc number ≡ flow events (quarter_of hour number) arc)

-- and so is its room
abbrev pub QuarterRoomsAreTheMarkets : Type 0
QuarterRoomsAreTheMarkets = (graph : Graph) (events : List Event) (hour : ℕ) (flows : Flows) (arc : Arc) → Stands graph events hour flows → HasArc graph arc
    → EachQuarter (λ number. room_in flows arc number ≡ quarter_room events arc (quarter_of hour number))

-- the refusal by a quarter of an hour in which so many lots flow
abbrev pub below_flow_of : (hour : ℕ) → ℕ × ℕ → Refusal
below_flow_of hour found = refusal.BelowFlow (quarter_of hour found.0) found.1

-- and by one that has so much room
abbrev pub no_room_of : (hour : ℕ) → ℕ × ℕ → Refusal
no_room_of hour found = refusal.NoRoom (quarter_of hour found.0) found.1

-- what the flows of an hour refuse of an offer for the quarters of a set
abbrev pub offer_refused_by : Flows → (hour : ℕ) → Arc → QuarterSet → (lots : ℕ) → Option Refusal
offer_refused_by flows hour arc set lots = option_map (below_flow_of hour) (first_flow_above flows arc set lots)

-- and of a request
abbrev pub request_refused_by : Flows → (hour : ℕ) → Arc → QuarterSet → (lots : ℕ) → Option Refusal
request_refused_by flows hour arc set lots = option_map (no_room_of hour) (first_room_below flows arc set lots)

-- the flows of an hour refuse an offer for a range of its quarters as the market does
abbrev pub OneHourRefusesOffersAlike : Type 0
OneHourRefusesOffersAlike = (graph : Graph) (events : List Event) (hour : ℕ) (first last : Quarter) (flows : Flows) (arc : Arc) (set : QuarterSet) (lots : ℕ)
    → Stands graph events hour flows → HasArc graph arc → first.hour ≡ hour → last.hour ≡ hour → IsRangeIn hour first last (has set)
    → first_answer (below_flow events arc lots) (range_quarters first last) ≡ offer_refused_by flows hour arc set lots

-- and a request
abbrev pub OneHourRefusesRequestsAlike : Type 0
OneHourRefusesRequestsAlike = (graph : Graph) (events : List Event) (hour : ℕ) (first last : Quarter) (flows : Flows) (arc : Arc) (set : QuarterSet) (lots : ℕ)
    → Stands graph events hour flows → HasArc graph arc → first.hour ≡ hour → last.hour ≡ hour → IsRangeIn hour first last (has set)
    → first_answer (no_room events arc lots) (range_quarters first last) ≡ request_refused_by flows hour arc set lots

-- each hour of a range has flows that stand for the events, and a set with those of the range's quarters
-- that are in the hour
pub record StandOver (graph : Graph) (events : List Event) (first last : Quarter) (flows : ℕ → Flows) (sets : ℕ → QuarterSet) : Type 0 where
  pub stands : (hour : ℕ) → is_within first.hour last.hour hour ≡ true → Stands graph events hour (flows hour)
  pub covers : (hour : ℕ) → is_within first.hour last.hour hour ≡ true → IsRangeIn hour first last (has (sets hour))

-- an offer for a range is refused as by the first of its hours whose flows refuse it
abbrev pub RangesRefuseOffersHourByHour : Type 0
RangesRefuseOffersHourByHour = (graph : Graph) (events : List Event) (first last : Quarter) (flows : ℕ → Flows) (sets : ℕ → QuarterSet) (arc : Arc) (lots : ℕ)
    → StandOver graph events first last flows sets → HasArc graph arc
    → first_answer (below_flow events arc lots) (range_quarters first last)
    ≡ first_answer (λ hour. offer_refused_by (flows hour) hour arc (sets hour) lots) (hours_from first.hour last.hour)

-- and so is a request
abbrev pub RangesRefuseRequestsHourByHour : Type 0
RangesRefuseRequestsHourByHour = (graph : Graph) (events : List Event) (first last : Quarter) (flows : ℕ → Flows) (sets : ℕ → QuarterSet) (arc : Arc) (lots : ℕ)
    → StandOver graph events first last flows sets → HasArc graph arc
    → first_answer (no_room events arc lots) (range_quarters first last)
    ≡ first_answer (λ hour. request_refused_by (flows hour) hour arc (sets hour) lots) (hours_from first.hour last.hour)
