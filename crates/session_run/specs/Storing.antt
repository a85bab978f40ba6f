-- What `store` writes, and what it leaves on the disk.
use Rattle.std.specs.Prelude.{◌≡◌, ◌<◌, ◌≤◌, ◌⊎◌, ℕ, List, [], Option, Result, Ok, Err, Some, length}
use Rattle.disk_model.specs.Contents.{Contents, settled}
use Rattle.durable_journal.specs.Appending.{most_stored}
use Rattle.durable_journal.specs.Stored.{StoresLines, image_of}
use Rattle.market_text.specs.declared.session.Session.{Session}
use Rattle.market_text.specs.Text.{session_of_text}
use Rattle.session_io.specs.Reading.{longest_session}
use Rattle.session_journal.specs.Journal.{journal_of_session}
use Rattle.session_io.specs.Outcomes.{DiskAnswers, EndsWell}
use Rattle.session_io.specs.Sources.{ReadsUpTo, WasRead}
use Rattle.session_io.specs.declared.status.Status.{Status}
use Rattle.session_io.specs.declared.status.Status.TheVariants as status
use Rattle.stored_journal.specs.Lines.{StoresFront, stored_lines}
use Rattle.session_run.specs.Reading.{HasNoEntry, IsBadText}

-- a disk is empty, with nothing pending, where it tells its contents
abbrev pub IsEmptyDisk : Option Contents → Type 0
IsEmptyDisk contents = (told : Contents) → contents ≡ Some told → told ≡ settled []

-- what is stored of the journal of a session whose commands are given in the order of its lines
abbrev pub lines_of_session : Session → List (List ℕ)
lines_of_session session = stored_lines session.setup (journal_of_session session)

-- bytes are those of a session, and an image is that of the lines of its journal, which are not too large
pub record IsStoredJournalOf (bytes image : List ℕ) : Type 0 where
  pub session : Session
  pub read : session_of_text bytes ≡ Ok session
  pub lines : image ≡ image_of (lines_of_session session)
  pub fits : length (image_of (lines_of_session session)) ≤ most_stored

-- bytes are those of a session, the lines of whose journal are too large to be stored
pub record IsTooLargeToStore (bytes : List ℕ) : Type 0 where
  pub session : Session
  pub read : session_of_text bytes ≡ Ok session
  pub large : most_stored < length (image_of (lines_of_session session))

-- a run of `store` over a disk that tells its contents or not: it wrote the image of the lines of the journal
abbrev pub Stored : (tells : Type 0) (bytes : List ℕ) → Status → (old new : Option (List ℕ)) → Type 0
Stored tells bytes end old new = DiskAnswers (λ image. tells → IsStoredJournalOf bytes image) (IsBadText bytes) (HasNoEntry bytes) (λ place. ¬ tells) end old new

-- an image is not damaged, and stores the first of the lines of the journal; or no line, where there is no session
abbrev pub StoresPart : Result Session ℕ → (image : List ℕ) → Type 0
StoresPart (Ok session) image = StoresFront (lines_of_session session) image
StoresPart (Err line) image = StoresLines image []

-- an image stores the first lines of the journal of the session that bytes are, however many
abbrev pub StoresPartOf : (bytes image : List ℕ) → Type 0
StoresPartOf bytes image = StoresPart (session_of_text bytes) image

-- what came from the source: too many bytes, or a session the lines of whose journal are too large, exactly where the run
-- says that it was too long
abbrev pub ReadsToStore : (tells : Type 0) (old new : Option (List ℕ)) → Status → Type 0
ReadsToStore tells old new end = ReadsUpTo longest_session old new end ⊎ ((end ≡ status.TooLong) × WasRead longest_session (λ bytes. tells → IsTooLargeToStore bytes) old new)

-- a run of `store` over a source that gives these bytes and a disk that tells its contents, where no call may have
-- failed: a session within the limit whose lines are not too large is stored
abbrev pub CompletesStoring : (left : Option (List ℕ)) (tells read_failed write_failed disk_failed : Type 0) → Status → Type 0
CompletesStoring left tells read_failed write_failed disk_failed end = (bytes : List ℕ) (session : Session) → left ≡ Some bytes → tells
    → session_of_text bytes ≡ Ok session → length bytes ≤ longest_session → length (image_of (lines_of_session session)) ≤ most_stored
    → ¬ read_failed → ¬ write_failed → ¬ disk_failed → EndsWell end
