-- The capacity of a border: flows net, and what offers and taking change.
use Rattle.std.proofs.Common.{◌≡◌, ℕ, pos, ◌+ℤ◌, ◌-ℤ◌, Bool, true, false, not, refl, arith}
use Rattle.std.proofs.lemmas.Int.{ints}
use Rattle.quarter_capacity.specs.Row.{Row, offered, flow, remaining, with_offered, with_taken}
use Rattle.quarter_capacity.specs.CapacityLaws.{OppositeFlowsNet, FlowsAreOpposite, OffersKeepTheFlow, TakingMovesTheFlow}

-- what is allocated and what remains is what is offered and what is allocated the other way
pub opposite_flows_net : OppositeFlowsNet
opposite_flows_net = λ offered allocated opposite. omega (arith, ints)

-- the flow the other way has the other sign
pub flows_are_opposite : FlowsAreOpposite
flows_are_opposite = λ allocated opposite. omega (arith, ints)

-- after an offer
pub offered-with_offered : (row : Row) (forward : Bool) (lots : ℕ) → offered (with_offered row forward lots) forward ≡ lots
offered-with_offered row true lots = refl
offered-with_offered row false lots = refl

pub offered-with_offered_opposite : (row : Row) (forward : Bool) (lots : ℕ) → offered (with_offered row forward lots) (not forward) ≡ offered row (not forward)
offered-with_offered_opposite row true lots = refl
offered-with_offered_opposite row false lots = refl

pub flow-with_offered : (row : Row) (forward : Bool) (lots : ℕ) (direction : Bool) → flow (with_offered row forward lots) direction ≡ flow row direction
flow-with_offered row true lots true = refl
flow-with_offered row true lots false = refl
flow-with_offered row false lots true = refl
flow-with_offered row false lots false = refl

-- after taking
pub offered-with_taken : (row : Row) (forward : Bool) (lots : ℕ) (direction : Bool) → offered (with_taken row forward lots) direction ≡ offered row direction
offered-with_taken row true lots true = refl
offered-with_taken row true lots false = refl
offered-with_taken row false lots true = refl
offered-with_taken row false lots false = refl

pub flow-with_taken : (row : Row) (forward : Bool) (lots : ℕ) → flow (with_taken row forward lots) forward ≡ flow row forward +ℤ pos lots
flow-with_taken row true lots = refl
flow-with_taken row false lots = omega (arith, ints)

pub remaining-with_taken : (row : Row) (forward : Bool) (lots : ℕ) → remaining (with_taken row forward lots) forward ≡ remaining row forward -ℤ pos lots
remaining-with_taken row true lots = omega (arith, ints)
remaining-with_taken row false lots = omega (arith, ints)

pub remaining-with_taken_opposite : (row : Row) (forward : Bool) (lots : ℕ) → remaining (with_taken row forward lots) (not forward) ≡ remaining row (not forward) +ℤ pos lots
remaining-with_taken_opposite row true lots = omega (arith, ints)
remaining-with_taken_opposite row false lots = omega (arith, ints)

-- both together
pub offers_keep_the_flow : OffersKeepTheFlow
offers_keep_the_flow = λ row forward lots.
    (offered-with_offered row forward lots, offered-with_offered_opposite row forward lots, flow-with_offered row forward lots)

pub taking_moves_the_flow : TakingMovesTheFlow
taking_moves_the_flow = λ row forward lots.
    (flow-with_taken row forward lots, remaining-with_taken row forward lots, remaining-with_taken_opposite row forward lots, offered-with_taken row forward lots)
