-- The capacity of an arc in a quarter of an hour, in lots. That opposite flows net is in the public
-- descriptions of cross-border capacity.
use Rattle.std.specs.Prelude.{ℕ, ℤ, pos, ◌-ℤ◌}

-- the most lots that are offered on an arc in a quarter: 100000.0 MW
abbrev pub most_offered : ℕ
most_offered = 1000000

-- the most lots that remain on an arc in a quarter: all that is offered on it, and as much as may
-- be offered and flow on the opposite one
abbrev pub most_remaining : ℕ
most_remaining = 2000000

-- what flows over an arc: what is allocated on it less what is allocated on the opposite arc
abbrev pub flow_of : (allocated opposite : ℕ) → ℤ
flow_of allocated opposite = pos allocated -ℤ pos opposite

-- what remains on an arc of what is offered on it: the offer less the flow, so a flow the other way
-- adds to it
abbrev pub remaining_of : (offered : ℕ) → (flow : ℤ) → ℤ
remaining_of offered flow = pos offered -ℤ flow
