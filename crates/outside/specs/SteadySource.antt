-- A source of bytes in memory that never fails, as its callers see it.
use Rattle.std.specs.Prelude.{ℕ, List}

-- the bytes still to come, and how many reads were made
pub record SteadyState : Type 0 where
  pub left : List ℕ
  pub reads : ℕ

-- a source from which nothing was read yet
abbrev pub new_steady : List ℕ → SteadyState
new_steady bytes = record { left = bytes; reads = 0 }
