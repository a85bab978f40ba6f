-- What rings of places always are.
use Rattle.std.specs.Prelude.{ℕ, ◌+◌, ◌<◌, ◌≤◌, ◌^◌, List, length, sum_by}
use Rattle.order_pool.specs.Lines.{StandsIn, StandOnce}

-- the rings hold places, none of them twice, and no more than there are
pub record AreRings (rings : List (List ℕ)) : Type 0 where
  pub fits : 4096 + length rings < 2 ^ 32
  pub low : (ring place : ℕ) → StandsIn rings ring place → place < 4096
  pub once : StandOnce rings
  pub few : sum_by length rings ≤ 4096
