-- The flows of an hour stand for a list of events: what is offered and what flows in each quarter, which
-- borders are halted and the phase are those that the market's definitions find in the events.
use Rattle.std.specs.Prelude.{◌≡◌, ℕ, ◌<◌, ◌==◌, ◌&&◌, ◌+ℤ◌, Bool, false, List, pos, if◌then◌else◌}
use Rattle.order_kinds.specs.declared.contract.Part.{Part}
use Rattle.order_kinds.specs.declared.phase.Phase.TheVariants as phase
use Rattle.order_kinds.specs.Contract.{covers}
use Rattle.order_kinds.specs.Period.{EachQuarter, quarter_of}
use Rattle.zone_graph.specs.declared.route.Arc.{Arc}
use Rattle.zone_graph.specs.Graph.{Graph, HasArc, border_count}
use Rattle.zone_graph.specs.Pour.{same_arc}
use Rattle.market_model.specs.declared.event.Event.{Event}
use Rattle.market_model.specs.Capacity.{flow, offered}
use Rattle.market_model.specs.Room.{is_halted, phase_of}
use Rattle.flow_netting.specs.declared.quarter_set.QuarterSet.{QuarterSet}
use Rattle.flow_netting.specs.Flows.{Flows, InEachQuarter, SameFlows, SameHalts, SameOffers, added_by}
use Rattle.flow_netting.specs.Flows as kept
use Rattle.flow_netting.specs.QuarterSet.{has}

-- the flows of an hour over the borders of a graph are those of a list of events
pub record Stands (graph : Graph) (events : List Event) (hour : ℕ) (flows : Flows) : Type 0 where
  pub size : kept.border_count flows ≡ border_count graph
  pub offered_same : (arc : Arc) → HasArc graph arc → EachQuarter (λ number. kept.offered_of flows arc number ≡ offered events (quarter_of hour number) arc)
  pub flow_same : (arc : Arc) → HasArc graph arc → EachQuarter (λ number. kept.flow_of flows arc number ≡ flow events (quarter_of hour number) arc)
  pub halted_same : (border : ℕ) → border < border_count graph → kept.is_halted flows border ≡ is_halted events border hour
  pub phase_same : flows.phase ≡ phase_of events hour

-- a set has the quarters in which a part of the hour delivers
abbrev pub IsSetOf : QuarterSet → Part → Type 0
IsSetOf set part = EachQuarter (λ number. has set number ≡ covers part number)

-- nothing is offered and nothing flows, no border is halted, and the hour is open
pub record IsIdle (graph : Graph) (flows : Flows) : Type 0 where
  pub size : kept.border_count flows ≡ border_count graph
  pub offers : InEachQuarter (λ arc number. kept.offered_of flows arc number ≡ 0)
  pub none_flows : InEachQuarter (λ arc number. kept.flow_of flows arc number ≡ pos 0)
  pub halts : (border : ℕ) → kept.is_halted flows border ≡ false
  pub phase : flows.phase ≡ phase.Open

-- some arcs carry so many more lots in the quarters that count, and nothing else changed
pub record IsCarried (carries : Arc → Bool) (counts : (number : ℕ) → Bool) (lots : ℕ) (old new : Flows) : Type 0 where
  pub flows : InEachQuarter (λ arc number. kept.flow_of new arc number
      ≡ (if counts number then kept.flow_of old arc number +ℤ added_by carries lots arc else kept.flow_of old arc number))
  pub offers : SameOffers old.borders new.borders
  pub halts : SameHalts old.borders new.borders
  pub phase : new.phase ≡ old.phase
  pub size : kept.border_count new ≡ kept.border_count old

-- so many lots are offered on an arc in the quarters that count, and nothing else changed
pub record IsOffered (arc : Arc) (counts : (number : ℕ) → Bool) (lots : ℕ) (old new : Flows) : Type 0 where
  pub offers : InEachQuarter (λ other number. kept.offered_of new other number
      ≡ (if same_arc arc other && counts number then lots else kept.offered_of old other number))
  pub flows : SameFlows old.borders new.borders
  pub halts : SameHalts old.borders new.borders
  pub phase : new.phase ≡ old.phase
  pub size : kept.border_count new ≡ kept.border_count old

-- a border is halted, or trade over it goes on, and nothing else changed
pub record IsHaltSet (border : ℕ) (halted : Bool) (old new : Flows) : Type 0 where
  pub halts : (other : ℕ) → kept.is_halted new other ≡ (if other == border then halted else kept.is_halted old other)
  pub offers : SameOffers old.borders new.borders
  pub flows : SameFlows old.borders new.borders
  pub phase : new.phase ≡ old.phase
  pub size : kept.border_count new ≡ kept.border_count old
