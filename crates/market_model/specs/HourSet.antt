-- Sets of the hours of a delivery day, which are numbered from 1.
use Rattle.std.specs.Prelude.{◌≡◌, ℕ, ◌-◌, ◌≤◌, Bool, true, ◌==◌, ◌&&◌, List, nat_le}
use Rattle.std.specs.Int.{bit_at}
use Rattle.zone_graph.specs.Route.{has}
use Rattle.market_model.specs.declared.hours.Hours.{Hours}

-- an hour is in a set: the lowest bit stands for hour 1, the next one for hour 2, and so on
abbrev pub has_hour : Hours → (hour : ℕ) → Bool
has_hour set hour = nat_le 1 hour && (bit_at set.0 (hour - 1) == 1)

-- the set has the hours of a list, and no others
abbrev pub IsSetOf : List ℕ → Hours → Type 0
IsSetOf hours set = (hour : ℕ) → has_hour set hour ≡ has hour hours

-- an hour is the first of a set
pub record IsFirstOf (set : Hours) (hour : ℕ) : Type 0 where
  pub within : has_hour set hour ≡ true
  pub least : (other : ℕ) → has_hour set other ≡ true → hour ≤ other
