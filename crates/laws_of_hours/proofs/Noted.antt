-- The flows of an hour after one more event.
use Rattle.std.proofs.Common.{◌≡◌, ◌∙◌, ◌+◌, ◌<◌, ◌&&◌, ℕ, ◌+ℤ◌, ℤ, Bool, true, false, List, Some, None, unwrap_or, if◌then◌else◌, eq-eqb, refl, sym, ap, ap₂, arith}
use Rattle.std.proofs.lemmas.Int.{ints}
use Rattle.order_kinds.specs.declared.contract.Contract.{Contract}
use Rattle.order_kinds.specs.declared.phase.Phase.TheVariants as phase
use Rattle.order_kinds.specs.Contract.{covers}
use Rattle.order_kinds.specs.Period.{EachQuarter, contract_has, quarter_of}
use Rattle.quarter_capacity.specs.Capacity.{flow_of}
use Rattle.zone_graph.specs.declared.route.Arc.{Arc}
use Rattle.zone_graph.specs.Graph.{Graph, HasArc, border_count}
use Rattle.zone_graph.specs.Pour.{lots_if, opposite_arc, uses}
use Rattle.market_model.specs.declared.event.Event.{Event}
use Rattle.market_model.specs.declared.event.Event.TheVariants as event
use Rattle.market_model.specs.Capacity.{allocated, allocated_by, offered_by}
use Rattle.market_model.specs.History.{and_then}
use Rattle.market_model.specs.Room.{halt_by, phase_by}
use Rattle.laws_of_market.proofs.Capacities.{allocated-more, last_said-more, offered-more}
use Rattle.flow_netting.specs.Flows.{Flows}
use Rattle.flow_netting.specs.Flows as kept
use Rattle.flow_netting.specs.QuarterSet.{has}
use Rattle.laws_of_hours.specs.FlowLaws.{GatesStand, LegsStand}
use Rattle.laws_of_hours.specs.Standing.{Stands}

-- an event is noted in the flows of an hour: they change as it says
pub record IsNoted (graph : Graph) (hour : ℕ) (e : Event) (old new : Flows) : Type 0 where
  pub size : kept.border_count new ≡ kept.border_count old
  pub offers : (arc : Arc) → HasArc graph arc → EachQuarter (λ number.
      kept.offered_of new arc number ≡ unwrap_or (offered_by (quarter_of hour number) arc e) (kept.offered_of old arc number))
  pub flows : (arc : Arc) → HasArc graph arc → EachQuarter (λ number. kept.flow_of new arc number
      ≡ kept.flow_of old arc number +ℤ flow_of (allocated_by (quarter_of hour number) arc e) (allocated_by (quarter_of hour number) (opposite_arc arc) e))
  pub halts : (border : ℕ) → border < border_count graph → kept.is_halted new border ≡ unwrap_or (halt_by border hour e) (kept.is_halted old border)
  pub phase : new.phase ≡ unwrap_or (phase_by hour e) old.phase

sum : (old new : ℤ) (there back more less : ℕ) → old ≡ flow_of there back → new ≡ old +ℤ flow_of more less → new ≡ flow_of (there + more) (back + less)
sum old new there back more less was now = omega (arith, ints)

-- and then the flows stand for the events with it
pub noted-stands : (graph : Graph) (events : List Event) (e : Event) (hour : ℕ) (old new : Flows) → Stands graph events hour old → IsNoted graph hour e old new
    → Stands graph (and_then events e) hour new
noted-stands graph events e hour old new is noted = record {
  size = noted.size ∙ is.size;
  offered_same = λ arc there number first last.
      noted.offers arc there number first last ∙ ap (unwrap_or (offered_by (quarter_of hour number) arc e)) (is.offered_same arc there number first last)
      ∙ sym (offered-more events e (quarter_of hour number) arc);
  flow_same = λ arc there number first last.
      sum (kept.flow_of old arc number) (kept.flow_of new arc number) (allocated events (quarter_of hour number) arc) (allocated events (quarter_of hour number) (opposite_arc arc))
      (allocated_by (quarter_of hour number) arc e) (allocated_by (quarter_of hour number) (opposite_arc arc) e)
      (is.flow_same arc there number first last) (noted.flows arc there number first last)
      ∙ sym (ap₂ flow_of (allocated-more events e (quarter_of hour number) arc) (allocated-more events e (quarter_of hour number) (opposite_arc arc)));
  halted_same = λ border there.
      noted.halts border there ∙ ap (unwrap_or (halt_by border hour e)) (is.halted_same border there) ∙ sym (last_said-more (halt_by border hour) false events e);
  phase_same = noted.phase ∙ ap (unwrap_or (phase_by hour e)) is.phase_same ∙ sym (last_said-more (phase_by hour) phase.Open events e);
}

-- nothing more flows where nothing is carried
pub no_more : (z : ℤ) → z ≡ z +ℤ flow_of 0 0
no_more z = omega (arith, ints)

-- lots that are carried in the quarters that count
pub carried-flow : (counts delivers there back : Bool) (lots : ℕ) (old new : ℤ) → counts ≡ delivers
    → new ≡ (if counts then old +ℤ flow_of (lots_if there lots) (lots_if back lots) else old)
    → new ≡ old +ℤ flow_of (lots_if (delivers && there) lots) (lots_if (delivers && back) lots)
carried-flow counts delivers there back lots old new same now =
    by delivers (now ∙ ap (λ b. if b then old +ℤ flow_of (lots_if there lots) (lots_if back lots) else old) same)
  where
    by : (b : Bool) → new ≡ (if b then old +ℤ flow_of (lots_if there lots) (lots_if back lots) else old)
        → new ≡ old +ℤ flow_of (lots_if (b && there) lots) (lots_if (b && back) lots)
    by true h = h
    by false h = h ∙ no_more old

-- a contract delivers in the quarters of its hour that its part covers
pub contract-covers : (contract : Contract) (number : ℕ) → covers contract.part number ≡ contract_has contract (quarter_of contract.hour number)
contract-covers contract number = ap (λ b. b && covers contract.part number) (sym (eq-eqb contract.hour contract.hour refl))

pub legs : LegsStand
legs graph events contract leg set old new is of_part carried = noted-stands graph events (event.Leg contract leg) contract.hour old new is (record {
  size = carried.size;
  offers = λ arc there number first last. carried.offers arc number first last;
  flows = λ arc there number first last.
      carried-flow (has set number) (contract_has contract (quarter_of contract.hour number)) (uses leg.route arc) (uses leg.route (opposite_arc arc)) leg.lots
      (kept.flow_of old arc number) (kept.flow_of new arc number) (of_part number first last ∙ contract-covers contract number) (carried.flows arc number first last);
  halts = λ border there. carried.halts border;
  phase = carried.phase;
})

pub gates : GatesStand
gates graph events hour moved old is = noted-stands graph events (event.Gated hour moved) hour old (record old { phase = moved }) is (record {
  size = refl;
  offers = λ arc there number first last. refl;
  flows = λ arc there number first last. no_more (kept.flow_of old arc number);
  halts = λ border there. refl;
  phase = sym (ap (λ b. unwrap_or (if b then Some moved else None) old.phase) (eq-eqb hour hour refl));
})
