-- A source of bytes in memory, as its callers see it, and what one read does to it.
use Rattle.std.specs.Prelude.{ℕ, List, drop, length, min, Result, Ok, Err}
use Rattle.outside.specs.Faults.{raised}

-- the bytes still to come, the most that one read gives, the numbers of the reads that fail, and
-- how many reads were made and how many of them failed
pub record SourceState : Type 0 where
  pub left : List ℕ
  pub most : ℕ
  pub fails : List ℕ
  pub calls : ℕ
  pub faults : ℕ

-- a source from which nothing was read yet
abbrev pub new_source : List ℕ → ℕ → List ℕ → SourceState
new_source bytes limit listed =
    record { left = bytes; most = limit; fails = listed; calls = 0; faults = 0 }

-- how many bytes a read gives that does not fail, into this much room
abbrev pub count_read : SourceState → ℕ → ℕ
count_read source room = min source.most (min room (length source.left))

-- the source after a read with this answer: what was given is gone, and a failed read is counted
abbrev pub after_read : {E : Type 0} → SourceState → Result ℕ E → SourceState
after_read source (Ok count) = record source {
  left = drop count source.left;
  calls = raised source.calls;
}
after_read source (Err error) = record source {
  calls = raised source.calls;
  faults = raised source.faults;
}
