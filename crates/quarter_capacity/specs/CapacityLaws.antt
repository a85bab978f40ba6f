-- What is true of the capacity of every border.
use Rattle.std.specs.Prelude.{◌≡◌, ℕ, ◌+◌, pos, neg_ℤ, ◌+ℤ◌, ◌-ℤ◌, Bool, not}
use Rattle.quarter_capacity.specs.Capacity.{flow_of, remaining_of}
use Rattle.quarter_capacity.specs.Row.{Row, offered, flow, remaining, with_offered, with_taken}

-- what is allocated and what remains is together what is offered and what is allocated on the
-- opposite arc
abbrev pub OppositeFlowsNet : Type 0
OppositeFlowsNet = (offered allocated opposite : ℕ)
    → pos allocated +ℤ remaining_of offered (flow_of allocated opposite) ≡ pos (offered + opposite)

-- what flows over an arc flows over the opposite one with the other sign
abbrev pub FlowsAreOpposite : Type 0
FlowsAreOpposite = (allocated opposite : ℕ) → flow_of opposite allocated ≡ neg_ℤ (flow_of allocated opposite)

-- an offer is what is offered in its direction, and changes neither the other offer nor any flow
abbrev pub OffersKeepTheFlow : Type 0
OffersKeepTheFlow = (row : Row) (forward : Bool) (lots : ℕ)
    → (offered (with_offered row forward lots) forward ≡ lots)
    × (offered (with_offered row forward lots) (not forward) ≡ offered row (not forward))
    × ((direction : Bool) → flow (with_offered row forward lots) direction ≡ flow row direction)

-- what is taken in a direction flows there besides, remains there no more, remains besides in the
-- opposite direction, and changes no offer
abbrev pub TakingMovesTheFlow : Type 0
TakingMovesTheFlow = (row : Row) (forward : Bool) (lots : ℕ)
    → (flow (with_taken row forward lots) forward ≡ flow row forward +ℤ pos lots)
    × (remaining (with_taken row forward lots) forward ≡ remaining row forward -ℤ pos lots)
    × (remaining (with_taken row forward lots) (not forward) ≡ remaining row (not forward) +ℤ pos lots)
    × ((direction : Bool) → offered (with_taken row forward lots) direction ≡ offered row direction)
