-- What `recover` reads, what it writes, and what it leaves on the disk.
use Rattle.std.specs.Prelude.{◌≡◌, ◌<◌, ◌≤◌, ◌⊎◌, ℕ, List, Option, Ok, Err, Some, codes, length}
use Rattle.disk_model.specs.Contents.{Contents}
use Rattle.durable_journal.specs.Appending.{most_stored}
use Rattle.durable_journal.specs.Resting.{HoldsLines}
use Rattle.durable_journal.specs.Stored.{IsDamaged, image_of}
use Rattle.market_text.specs.declared.session.Session.{Session}
use Rattle.journal_audit.specs.Dividing.{Parts, division_of}
use Rattle.journal_audit.specs.Reading.{session_of_divided}
use Rattle.session_io.specs.JournalText.{journal_text}
use Rattle.session_io.specs.Reading.{longest_record}
use Rattle.session_io.specs.Outcomes.{DiskAnswers, EndsWell}
use Rattle.session_io.specs.Sources.{ReadsUpTo, WasRead}
use Rattle.session_io.specs.declared.status.Status.{Status}
use Rattle.session_io.specs.declared.status.Status.TheVariants as status
use Rattle.session_storing.specs.Playing.{journal_in_order, lines_in_order}
use Rattle.session_storing.specs.Recovering.{IsTooLargeBehind, StoresRightLines, StoresWrongLine, order_behind}

-- ---- the input

-- the line between the text of a session and an image
abbrev pub image_line : List ℕ
image_line = codes "image"

-- behind that line an input has an image that is too long
pub record HasLongImage (bytes : List ℕ) : Type 0 where
  pub parts : Parts
  pub divided : division_of image_line bytes ≡ Some parts
  pub long : most_stored < length parts.rest

-- an input is the text of a session, the line, and an image that is not too long
pub record HasImage (bytes : List ℕ) (session : Session) (image : List ℕ) : Type 0 where
  pub divided : session_of_divided image_line bytes ≡ Ok (session, image)
  pub short : length image ≤ most_stored

-- an input is none, though its image is not too long: this is the bad line
pub record IsBadInput (bytes : List ℕ) (line : ℕ) : Type 0 where
  pub divided : session_of_divided image_line bytes ≡ Err line
  pub short : ¬ HasLongImage bytes

-- an input with a session and an image of which something holds
pub record HasImageWith (Of : Session → List ℕ → Type 0) (bytes : List ℕ) : Type 0 where
  pub session : Session
  pub image : List ℕ
  pub has : HasImage bytes session image
  pub of : Of session image

-- whatever they are
abbrev pub HasSomeImage : (bytes : List ℕ) → Type 0
HasSomeImage bytes = HasImageWith (λ session image. Unit {0}) bytes

-- ---- what comes of it, over a disk that tells its contents or not

-- the image is damaged at this place
abbrev pub HasDamagedImage : (tells : Type 0) (bytes : List ℕ) (place : ℕ) → Type 0
HasDamagedImage tells bytes place = HasImageWith (λ session image. tells → IsDamaged image place) bytes

-- this is the first of its lines that is not right
abbrev pub HasWrongLine : (tells : Type 0) (bytes : List ℕ) (entry : ℕ) → Type 0
HasWrongLine tells bytes entry = HasImageWith (λ session image. tells → StoresWrongLine session image entry) bytes

-- the lines of the whole journal are too large to be stored
abbrev pub IsTooLargeToRecover : (tells : Type 0) (bytes : List ℕ) → Type 0
IsTooLargeToRecover tells bytes = HasImageWith (λ session image. tells → IsTooLargeBehind session session.turns image) bytes

-- all lines of the journal of a session behind the right lines of an image
abbrev pub lines_behind : (session : Session) (lines : List (List ℕ)) → List (List ℕ)
lines_behind session lines = lines_in_order session (order_behind session.setup session.turns lines)

-- its text: that of the journal of the callers of the stored lines, each with its next command, and then of the commands
-- that are left
abbrev pub text_behind : (session : Session) (lines : List (List ℕ)) → List ℕ
text_behind session lines = journal_text session.setup (journal_in_order session (order_behind session.setup session.turns lines))

-- an image stores right lines, and this is the text of the journal behind them, whose lines are not too large
pub record IsTextBehind (session : Session) (image text : List ℕ) : Type 0 where
  pub front : StoresRightLines session image
  pub is : text ≡ text_behind session front.lines
  pub fits : length (image_of (lines_behind session front.lines)) ≤ most_stored

-- so of an input
abbrev pub IsRecoveredTextOf : (tells : Type 0) (bytes text : List ℕ) → Type 0
IsRecoveredTextOf tells bytes text = HasImageWith (λ session image. tells → IsTextBehind session image text) bytes

-- a run of `recover`: it wrote the text of the whole journal, or a first part
abbrev pub Recovered : (tells : Type 0) (bytes : List ℕ) → Status → (old new : Option (List ℕ)) → Type 0
Recovered tells bytes status.DiskFault old new = HasSomeImage bytes
Recovered tells bytes end old new = DiskAnswers (IsRecoveredTextOf tells bytes) (IsBadInput bytes) (HasWrongLine tells bytes) (HasDamagedImage tells bytes) end old new

-- an image stores right lines, and a disk has one image, which stores all lines of the journal behind them
pub record HoldsLinesBehind (contents : Option Contents) (session : Session) (image : List ℕ) : Type 0 where
  pub front : StoresRightLines session image
  pub place : ℕ
  pub holds : HoldsLines contents (lines_behind session front.lines) place

-- so of an input
abbrev pub IsRecoveredOn : Option Contents → (bytes : List ℕ) → Type 0
IsRecoveredOn contents bytes = HasImageWith (HoldsLinesBehind contents) bytes

-- what came from the source: too many bytes, or an image that is too long, or one behind which the lines of the whole journal
-- are too large, exactly where the run says that it was too long
abbrev pub ReadsToRecover : (tells : Type 0) (old new : Option (List ℕ)) → Status → Type 0
ReadsToRecover tells old new end = ReadsUpTo longest_record old new end
    ⊎ ((end ≡ status.TooLong) × WasRead longest_record (λ bytes. HasLongImage bytes ⊎ IsTooLargeToRecover tells bytes) old new)

-- a run of `recover` over a source that gives these bytes and a disk that tells its contents, where no call may have failed:
-- where the stored lines are all right, and those of the whole journal are not too large, the session is recovered
abbrev pub CompletesRecovering : (left : Option (List ℕ)) (tells read_failed write_failed disk_failed : Type 0) → Status → Type 0
CompletesRecovering left tells read_failed write_failed disk_failed end = (bytes : List ℕ) (session : Session) (image : List ℕ) (front : StoresRightLines session image)
    → left ≡ Some bytes → tells → HasImage bytes session image → length bytes ≤ longest_record
    → length (image_of (lines_behind session front.lines)) ≤ most_stored
    → ¬ read_failed → ¬ write_failed → ¬ disk_failed → EndsWell end

-- an input is not recovered, and the run ends so
abbrev pub EndsInput : (tells : Type 0) (bytes : List ℕ) → Status → Type 0
EndsInput tells bytes (status.BadSession line) = IsBadInput bytes line
EndsInput tells bytes (status.Illegal entry) = HasWrongLine tells bytes entry
EndsInput tells bytes (status.BadImage place) = HasDamagedImage tells bytes place
EndsInput tells bytes status.TooLong = HasLongImage bytes ⊎ IsTooLargeToRecover tells bytes
EndsInput tells bytes status.DiskFault = HasSomeImage bytes
EndsInput tells bytes status.NoMemory = Unit {0}
EndsInput tells bytes _ = ⊥
