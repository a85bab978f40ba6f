-- The capacity of a border in one quarter of an hour, in lots: what is offered, what flows and what
-- remains on each of its two arcs. The arc from the border's first zone to its second is forward.
use Rattle.std.specs.Prelude.{ℕ, ℤ, pos, neg_ℤ, ◌+ℤ◌, ◌-ℤ◌, Bool, true, false}
use Rattle.quarter_capacity.specs.Capacity.{remaining_of}

-- the lots that are offered on the forward arc and on the opposite one, and what flows over the
-- forward arc: below 0 where more is allocated on the opposite one
pub record Row : Type 0 where
  pub forward_offered : ℕ
  pub opposite_offered : ℕ
  pub forward_flow : ℤ

-- a border on which nothing is offered and nothing flows
abbrev pub nothing_offered : Row
nothing_offered = record { forward_offered = 0; opposite_offered = 0; forward_flow = pos 0 }

-- the lots that are offered in a direction
abbrev pub offered : Row → (forward : Bool) → ℕ
offered row true = row.forward_offered
offered row false = row.opposite_offered

-- what flows in a direction: over the opposite arc as much as over the forward one, with the other
-- sign
abbrev pub flow : Row → (forward : Bool) → ℤ
flow row true = row.forward_flow
flow row false = neg_ℤ row.forward_flow

-- what remains in a direction of what is offered in it
abbrev pub remaining : Row → (forward : Bool) → ℤ
remaining row forward = remaining_of (offered row forward) (flow row forward)

-- the row with so many lots offered in a direction, and nothing else changed
abbrev pub with_offered : Row → (forward : Bool) → (lots : ℕ) → Row
with_offered row true lots = record row { forward_offered = lots }
with_offered row false lots = record row { opposite_offered = lots }

-- the row with so many more lots flowing in a direction, and nothing else changed
abbrev pub with_taken : Row → (forward : Bool) → (lots : ℕ) → Row
with_taken row true lots = record row { forward_flow = row.forward_flow +ℤ pos lots }
with_taken row false lots = record row { forward_flow = row.forward_flow -ℤ pos lots }
