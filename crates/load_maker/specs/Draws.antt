-- Draws: a stream of states, whole numbers below 2^64, and the number that each of them gives.
use Rattle.std.specs.Prelude.{ℕ, zero, suc, ◌+◌, ◌*◌, ◌/◌, ◌%◌, ◌^◌}

-- the state that follows a state
unfoldable pub next_state : ℕ → ℕ
next_state state = (state * 6364136223846793005 + 1442695040888963407) % 2 ^ 64

-- the state after so many draws
abbrev pub state_after : (state draws : ℕ) → ℕ
state_after state zero = state
state_after state (suc draws) = next_state (state_after state draws)

-- the number below a bound that a state gives: of its high bits
unfoldable pub number_of : (state bound : ℕ) → ℕ
number_of state bound = state / 2 ^ 33 % bound

-- the number below a bound that is drawn from a state at this place, counted from 1
abbrev pub draw : (state place bound : ℕ) → ℕ
draw state place bound = number_of (state_after state place) bound
