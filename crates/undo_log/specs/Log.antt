-- A log of changes, as its callers see it, and what the calls do to it.
use Rattle.std.specs.Prelude.{ℕ, ◌+◌, ◌-◌, List, [], ◌∷◌, ◌++◌, length}

-- the changes that were noted, from the first to the last, and how many more can be noted
-- without taking memory
pub record Log (C : Type 0) : Type 0 where
  pub records : List C
  pub spare : ℕ

-- a log with no record and no spare room
abbrev pub empty_log : {C : Type 0} → Log C
empty_log = record { records = []; spare = 0 }

-- the log with one more change at its end, for which one place of the spare room is used
abbrev pub with_noted : {C : Type 0} → Log C → C → Log C
with_noted log change = record {
  records = log.records ++ change ∷ [];
  spare = log.spare - 1;
}

-- the log with no record, the places of all of them spare
abbrev pub cleared_log : {C : Type 0} → Log C → Log C
cleared_log log = record { records = []; spare = log.spare + length log.records }
