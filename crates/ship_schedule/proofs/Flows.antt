-- What trades and grants carry together is the flow, which is within the offers.
use Rattle.std.proofs.Common.{◌≡◌, ◌+◌, ◌≤◌, ℕ, List, [], filter, pos, neg_ℤ, ◌+ℤ◌, ◌≤ℤ◌, refl, arith}
use Rattle.std.proofs.lemmas.Int.{ints}
use Rattle.order_kinds.specs.declared.contract.Quarter.{Quarter}
use Rattle.quarter_capacity.specs.Capacity.{flow_of}
use Rattle.zone_graph.specs.declared.route.Arc.{Arc}
use Rattle.zone_graph.specs.Pour.{lots_if, opposite_arc}
use Rattle.cut_proof.proofs.ArcSums.{sum_parts, sum_passing}
use Rattle.market_model.specs.declared.event.Event.{Event}
use Rattle.market_model.specs.declared.event.Event.TheVariants as event
use Rattle.market_model.specs.declared.setup.Setup.{Setup}
use Rattle.market_model.specs.Capacity.{allocated, allocated_by, flow, offered}
use Rattle.market_model.specs.WellFormed.{FitAfter}
use Rattle.laws_of_market.proofs.Uses.{within_offers}
use Rattle.ship_schedule.specs.Schedule.{exchange, explicit, forward_arc, is_grant, is_trade}

-- an event that allocates is a trade or a grant
of_either : (quarter : Quarter) (arc : Arc) (e : Event)
    → allocated_by quarter arc e ≡ lots_if (is_trade e) (allocated_by quarter arc e) + lots_if (is_grant e) (allocated_by quarter arc e)
of_either quarter arc (event.Leg contract leg) = omega arith
of_either quarter arc (event.BlockLeg first last leg) = omega arith
of_either quarter arc (event.Granted granted first last lots) = omega arith
of_either quarter arc _ = refl

allocated-parts : (events : List Event) (quarter : Quarter) (arc : Arc)
    → allocated events quarter arc ≡ allocated (filter is_trade events) quarter arc + allocated (filter is_grant events) quarter arc
allocated-parts events quarter arc =
    let parts = sum_parts (allocated_by quarter arc) (λ e. lots_if (is_trade e) (allocated_by quarter arc e)) (λ e. lots_if (is_grant e) (allocated_by quarter arc e)) events
    (of_either quarter arc) in
    omega (arith, parts, sum_passing is_trade (allocated_by quarter arc) events, sum_passing is_grant (allocated_by quarter arc) events)

flow_of-parts : (there back traded traded_back granted granted_back : ℕ) → there ≡ traded + granted → back ≡ traded_back + granted_back
    → flow_of traded traded_back +ℤ flow_of granted granted_back ≡ flow_of there back
flow_of-parts there back traded traded_back granted granted_back e k = omega (arith, ints)

-- what trades and grants carry over a border is the flow of its forward arc
pub exchange-flow : (events : List Event) (border : ℕ) (quarter : Quarter)
    → exchange events border quarter +ℤ explicit events border quarter ≡ flow events quarter (forward_arc border)
exchange-flow events border quarter =
    flow_of-parts (allocated events quarter (forward_arc border)) (allocated events quarter (opposite_arc (forward_arc border)))
    (allocated (filter is_trade events) quarter (forward_arc border)) (allocated (filter is_trade events) quarter (opposite_arc (forward_arc border)))
    (allocated (filter is_grant events) quarter (forward_arc border)) (allocated (filter is_grant events) quarter (opposite_arc (forward_arc border)))
    (allocated-parts events quarter (forward_arc border)) (allocated-parts events quarter (opposite_arc (forward_arc border)))

flow-bounds : (offer other there back : ℕ) → there ≤ offer + back → back ≤ other + there
    → (flow_of there back ≤ℤ pos offer) × (neg_ℤ (flow_of there back) ≤ℤ pos other)
flow-bounds offer other there back covered back_covered = (omega (arith, ints), omega (arith, ints))

-- and is within the offers
pub flow-offered : (setup : Setup) (events : List Event) → FitAfter setup [] events → (border : ℕ) (quarter : Quarter)
    → (flow events quarter (forward_arc border) ≤ℤ pos (offered events quarter (forward_arc border)))
    × (neg_ℤ (flow events quarter (forward_arc border)) ≤ℤ pos (offered events quarter (opposite_arc (forward_arc border))))
flow-offered setup events fit border quarter =
    let within = within_offers setup events fit in
    flow-bounds (offered events quarter (forward_arc border)) (offered events quarter (opposite_arc (forward_arc border)))
    (allocated events quarter (forward_arc border)) (allocated events quarter (opposite_arc (forward_arc border)))
    (within.covered quarter (forward_arc border)) (within.covered quarter (opposite_arc (forward_arc border)))
