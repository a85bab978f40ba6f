-- A sink of bytes in memory, as its callers see it, and what one write does to it.
use Rattle.std.specs.Prelude.{ℕ, List, [], ◌++◌, take, length, min, Result, Ok, Err}
use Rattle.outside.specs.Faults.{raised}

-- the bytes written so far, the most that one write takes, the numbers of the writes that fail,
-- and how many writes were made and how many of them failed
pub record SinkState : Type 0 where
  pub written : List ℕ
  pub most : ℕ
  pub fails : List ℕ
  pub calls : ℕ
  pub faults : ℕ

-- a sink to which nothing was written yet
abbrev pub new_sink : ℕ → List ℕ → SinkState
new_sink limit listed =
    record { written = []; most = limit; fails = listed; calls = 0; faults = 0 }

-- how many bytes of a piece a write takes that does not fail
abbrev pub count_written : SinkState → List ℕ → ℕ
count_written sink piece = min sink.most (length piece)

-- the sink after a write of a piece with this answer: the front of the piece stands behind what
-- was there, and a failed write is counted and adds nothing
abbrev pub after_write : {E : Type 0} → SinkState → List ℕ → Result ℕ E → SinkState
after_write sink piece (Ok count) = record sink {
  written = sink.written ++ take count piece;
  calls = raised sink.calls;
}
after_write sink piece (Err error) = record sink {
  calls = raised sink.calls;
  faults = raised sink.faults;
}
