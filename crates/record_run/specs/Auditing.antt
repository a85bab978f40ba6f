-- What comes of the audit of a record.
use Rattle.std.specs.Prelude.{◌≡◌, ℕ, List}
use Rattle.market_text.specs.declared.session.Session.{Session}
use Rattle.session_io.specs.declared.status.Status.{Status}
use Rattle.session_io.specs.declared.status.Status.TheVariants as status
use Rattle.record_run.specs.declared.auditing.Audited.{Audited}
use Rattle.record_run.specs.Records.{IsBadRecord, IsIllegalRecord, IsRecord}

-- this is kept of bytes that are a record whose journal is complete
pub record IsOf (audited : Audited) (bytes : List ℕ) : Type 0 where
  pub session : Session
  pub setup : audited.setup ≡ session.setup
  pub recorded : IsRecord bytes session audited.entries

-- bytes are no such record, and the run ends so
abbrev pub EndsAudit : (bytes : List ℕ) → Status → Type 0
EndsAudit bytes (status.BadSession line) = IsBadRecord bytes line
EndsAudit bytes (status.Illegal entry) = IsIllegalRecord bytes entry
EndsAudit bytes status.NoMemory = Unit {0}
EndsAudit bytes _ = ⊥
