-- Rows of numbers, of which only the first ones are stored. No public clause cites this module.
use Rattle.std.specs.Prelude.{ℕ, ◌+◌, ◌-◌, List, ◌++◌, length}
use Rattle.std.specs.List.{range_with_len}

-- the numbers that are stored, and behind them each number that its own index stands for, so many
-- in all, the first index standing for a number of its own
unfoldable pub padded : List ℕ → ℕ → ℕ → List ℕ
padded stored first count =
    stored ++ range_with_len (first + length stored) (count - length stored)
