-- The phases of an hour: their order, and how they are printed.
use Rattle.std.specs.Prelude.{ℕ, Bool, List, codes, nat_lt}
use Rattle.order_kinds.specs.declared.phase.Phase.{Phase}
use Rattle.order_kinds.specs.declared.phase.Phase.TheVariants.{Open, Local, Closed}

-- a phase in words
abbrev pub phase_text : Phase → List ℕ
phase_text Open = codes "open"
phase_text Local = codes "local"
phase_text Closed = codes "closed"

-- the place of a phase among the three: an hour goes from lower to higher ones
abbrev pub phase_rank : Phase → ℕ
phase_rank Open = 0
phase_rank Local = 1
phase_rank Closed = 2

-- a phase comes later than another
abbrev pub is_later : (asked now : Phase) → Bool
is_later asked now = nat_lt (phase_rank now) (phase_rank asked)
