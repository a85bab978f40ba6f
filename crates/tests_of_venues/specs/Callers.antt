-- The callers of the tests' venues.
use Rattle.std.specs.Prelude.{◌≡◌, ℕ, ◌*◌, List, length, sum_by}
use Rattle.market_model.specs.declared.setup.Caller.{Caller}

-- so many callers, each with the same room
pub record AreCallers (callers : List Caller) (count room : ℕ) : Type 0 where
  pub many : length callers ≡ count
  pub rooms : sum_by (λ caller. caller.room) callers ≡ count * room
