-- What a run does to its sink.
use Rattle.std.specs.Prelude.{◌≡◌, ℕ, List, ◌++◌, codes, Option}
use Rattle.std.specs.Io.KnownBytes.{Appends}
use Rattle.session_io.specs.declared.writing.WriteError.{WriteError}
use Rattle.session_io.specs.declared.writing.WriteError.TheVariants as stopped

-- a sink got the front of a line, and this is the rest
pub record Wrote (old new : Option (List ℕ)) (line rest : List ℕ) : Type 0 where
  pub front : List ℕ
  pub whole : line ≡ front ++ rest
  pub appended : Appends old new front

-- what stopped the writing, in words
abbrev pub writing_text : WriteError → List ℕ
writing_text stopped.Fault = codes "a write failed"
writing_text stopped.NoMemory = codes "no memory"
