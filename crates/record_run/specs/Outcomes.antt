-- What a run that reads a record has written, by how it ends.
use Rattle.std.specs.Prelude.{◌≡◌, ◌≤◌, ℕ, List, Option, Some, length}
use Rattle.market_model.specs.declared.entry.Entry.{Entry}
use Rattle.market_model.specs.declared.setup.Setup.{Setup}
use Rattle.market_text.specs.declared.session.Session.{Session}
use Rattle.session_io.specs.Reading.{longest_record}
use Rattle.session_io.specs.declared.status.Status.{Status}
use Rattle.session_io.specs.Outcomes.{Answers, EndsWell}
use Rattle.record_run.specs.Records.{IsBadRecord, IsIllegalRecord, IsMadeOf, IsRecord, schedule_of, verdict_of}

-- a run that writes a text of the journal of a record, where that is complete
abbrev pub Recorded : (text : Setup → List Entry → List ℕ) (bytes : List ℕ) → Status → (old new : Option (List ℕ)) → Type 0
Recorded text bytes end old new = Answers (IsMadeOf text bytes) (IsBadRecord bytes) (IsIllegalRecord bytes) end old new

-- a run of `audit`: the text is the line with the number of its entries
abbrev pub Audited : (bytes : List ℕ) → Status → (old new : Option (List ℕ)) → Type 0
Audited bytes end old new = Recorded verdict_of bytes end old new

-- a run of `ship`: the text is the schedule of what happened
abbrev pub Shipped : (bytes : List ℕ) → Status → (old new : Option (List ℕ)) → Type 0
Shipped bytes end old new = Recorded schedule_of bytes end old new

-- a run over a source that gives these bytes, of which some read or write may have failed: where none did, and the bytes
-- are a record within the limit whose journal is complete, it ends well
abbrev pub CompletesRecords : (left : Option (List ℕ)) (read_failed write_failed : Type 0) → Status → Type 0
CompletesRecords left read_failed write_failed end = (bytes : List ℕ) (session : Session) (entries : List Entry) → left ≡ Some bytes
    → IsRecord bytes session entries → length bytes ≤ longest_record → ¬ read_failed → ¬ write_failed → EndsWell end
