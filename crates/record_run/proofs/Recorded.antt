-- What comes of a record: where it is read, audited, and something is written of it, and where it is not.
use Rattle.std.proofs.Common.{◌≡◌, ◌≢◌, ◌∙◌, ◌⊎◌, inl, ℕ, ◌≤◌, List, [], Option, None, Some, true≢false, Result, Ok, Err, IfOk, MatchResult, length, sym, ap, subst}
use Rattle.std.specs.Io.KnownBytes.{Appends}
use Rattle.std.proofs.KnownBytes.{Appends-nil}
use Rattle.market_model.specs.declared.entry.Entry.{Entry}
use Rattle.market_model.specs.declared.setup.Setup.{Setup}
use Rattle.market_text.specs.declared.session.Session.{Session}
use Rattle.journal_audit.specs.Audit.{IsComplete}
use Rattle.session_io.specs.Reading.{longest_record}
use Rattle.session_io.specs.declared.status.Status.{Status}
use Rattle.session_io.specs.declared.status.Status.TheVariants as status
use Rattle.session_io.specs.Sources.{ReadsUpTo, Stops, WasRead}
use Rattle.session_io.specs.Status.{stops_reading}
use Rattle.session_io.proofs.Answering.{answers-nothing, is-known}
use Rattle.session_io.proofs.Completion.{completes}
use Rattle.record_run.specs.declared.auditing.Audited.{Audited}
use Rattle.record_run.specs.Auditing.{IsOf}
use Rattle.record_run.specs.Outcomes.{Recorded}
use Rattle.record_run.specs.Records.{IsBadRecord, IsIllegalRecord, IsMadeOf, IsRecord, verdict_of}
use Rattle.record_run.specs.Writing.{Writes}
use Rattle.record_run.proofs.Written.{writes-answer}

-- ---- a record is read

-- ---- what is written of it

-- a text of an audited record that is written is what is asked for
pub records : (text : Setup → List Entry → List ℕ) (audited : Audited) (bytes : List ℕ) (left seen : Option (List ℕ)) (end : Status) (old new : Option (List ℕ))
    → WasRead longest_record (IsOf audited) left seen → left ≡ Some bytes → Writes (text audited.setup audited.entries) end old new
    → Recorded text bytes end old new
records text audited bytes left seen end old new read is writes =
    let of = is-known longest_record (IsOf audited) left seen bytes read is in
    writes-answer (IsMadeOf text bytes) (IsBadRecord bytes) (IsIllegalRecord bytes) (text audited.setup audited.entries) end old new
    (record { session = of.session; entries = audited.entries; recorded = of.recorded; made = ap (λ setup. text setup audited.entries) of.setup })
    writes

-- and where there was no memory to make it, nothing is
pub records-made : (text : Setup → List Entry → List ℕ) (audited : Audited) (bytes : List ℕ) (left seen : Option (List ℕ)) (end : Status) (old new : Option (List ℕ))
    {E : Type 0} (made : Result (List ℕ) E) (Same : Type 0) → (Same → new ≡ old)
    → WasRead longest_record (IsOf audited) left seen → left ≡ Some bytes → IfOk made (λ t. t ≡ text audited.setup audited.entries)
    → MatchResult made (λ t. Writes t end old new) (λ _. (end ≡ status.NoMemory) × Same) → Recorded text bytes end old new
records-made text audited bytes left seen end old new (Ok t) Same same read is exact writes =
    records text audited bytes left seen end old new read is (subst (λ t'. Writes t' end old new) exact writes)
records-made text audited bytes left seen end old new (Err error) Same same read is exact wanting =
    subst (λ (s : Status). Recorded text bytes s old new) (sym wanting.0)
    (inl (subst (λ known. Appends old known []) (sym (same wanting.1)) (Appends-nil old)))

-- ---- a record with a complete journal is answered

pub completes-record : (text : Setup → List Entry → List ℕ) (bytes : List ℕ) (session : Session) (entries : List Entry) (end : Status) (left new old written : Option (List ℕ))
    → left ≡ Some bytes → IsRecord bytes session entries → length bytes ≤ longest_record → Recorded text bytes end old written
    → (end ≢ status.NoMemory → ReadsUpTo longest_record left new end) → end ≢ status.Usage → end ≢ status.ReadFault → end ≢ status.WriteFault
    → (end ≡ status.Done) ⊎ (end ≡ status.NoMemory)
completes-record text bytes session entries end left new old written is recorded short answers reads no_usage no_read no_write =
    completes longest_record (IsMadeOf text bytes) (IsBadRecord bytes) (IsIllegalRecord bytes) bytes end left new old written is short
    (λ line bad. let none : Ok (session, recorded.journal) ≡ Err line = sym recorded.divided ∙ bad in cc)
    (λ entry illegal.
    let same : (session, recorded.journal) ≡ (illegal.session, illegal.journal) = inside _ _ (sym recorded.divided ∙ illegal.divided) in
    illegal.incomplete.incomplete (subst (λ (p : Session × List ℕ). IsComplete p.0 p.1) same recorded.complete.complete))
    answers reads no_usage no_read no_write
  where
    inside : (a b : Session × List ℕ) → let one : Result (Session × List ℕ) ℕ = Ok a in let two : Result (Session × List ℕ) ℕ = Ok b in one ≡ two → a ≡ b
    inside a b e = cc

-- one that ends before anything is written does so for want of memory
pub completes-stopped : (bytes : List ℕ) (session : Session) (entries : List Entry) (end : Status) (left new : Option (List ℕ))
    → left ≡ Some bytes → IsRecord bytes session entries → length bytes ≤ longest_record → Stops longest_record IsBadRecord IsIllegalRecord left new end
    → end ≢ status.ReadFault → (end ≡ status.Done) ⊎ (end ≡ status.NoMemory)
completes-stopped bytes session entries end left new is recorded short stops no_read =
    completes-record verdict_of bytes session entries end left new None None is recorded short
    (answers-nothing longest_record (IsMadeOf verdict_of bytes) IsBadRecord IsIllegalRecord left new end bytes None stops is) stops.reads
    (λ e. true≢false (sym stops.early ∙ ap stops_reading e)) no_read (λ e. true≢false (sym stops.early ∙ ap stops_reading e))
