-- What `recover` answers of a session and an image.
use Rattle.std.proofs.Common.{◌≡◌, ◌≢◌, ◌∙◌, ◌⊎◌, inl, inr, ℕ, ◌<◌, ◌≤◌, List, Option, Some, Result, Ok, Err, IfErr, length, refl, sym, ap, subst, arith}
use Rattle.std.proofs.lemmas.Bool.{cases_lt}
use Rattle.std.proofs.KnownBytes.{Appends-nil}
use Rattle.disk_model.specs.Contents.{Contents}
use Rattle.durable_journal.specs.Appending.{most_stored}
use Rattle.durable_journal.specs.Resting.{HoldsLines}
use Rattle.durable_journal.specs.Stored.{IsDamaged, StoresLines, image_of}
use Rattle.durable_journal.proofs.Parsing.{damaged_stores_none, stores_unique}
use Rattle.market_text.specs.declared.session.Session.{Session}
use Rattle.journal_audit.specs.Audit.{IsFirstWrongAmong}
use Rattle.journal_audit.specs.Lines.{ended_lines}
use Rattle.journal_audit.specs.Dividing.{Parts}
use Rattle.journal_audit.specs.Reading.{session_of_divided}
use Rattle.session_io.specs.JournalText.{journal_text}
use Rattle.session_io.specs.Reading.{longest_record}
use Rattle.session_io.specs.declared.status.Status.{Status}
use Rattle.session_io.specs.declared.status.Status.TheVariants as status
use Rattle.session_io.specs.Outcomes.{Answers, EndsWell}
use Rattle.session_io.specs.Sources.{ReadsUpTo, WasRead}
use Rattle.session_io.proofs.Answering.{has-read}
use Rattle.session_io.proofs.Completion.{completes}
use Rattle.record_run.specs.Inputs.{Is, ReadsNone}
use Rattle.record_run.specs.Writing.{Writes}
use Rattle.record_run.proofs.Markets.{read-parts}
use Rattle.record_run.proofs.Written.{writes-answer}
use Rattle.session_storing.specs.Outcomes.{EndsRecovering}
use Rattle.session_storing.specs.Playing.{PlayState, journal_in_order, lines_in_order}
use Rattle.session_storing.specs.Recovering.{IsRecovered, IsTooLargeBehind, StoresRightLines, StoresWrongLine, order_behind}
use Rattle.session_run.specs.Recovering.{EndsInput, HasImage, HasImageWith, HasLongImage, HasWrongLine, HoldsLinesBehind, IsBadInput, IsRecoveredTextOf, IsTextBehind, IsTooLargeToRecover, ReadsToRecover, Recovered, image_line, lines_behind}

-- ---- a session that was recovered

module _ (session : Session) (turns image : List ℕ) (contents : Option Contents) (state : PlayState) (same : turns ≡ session.turns)
    (is : IsRecovered session turns image contents state) where
  pub text-behind : length image ≤ most_stored → IsTextBehind session image (journal_text state.setup state.entries)
  text-behind short = record {
    front = is.front;
    is = ap (λ s. journal_text s state.entries) is.playing.setup ∙ ap (journal_text session.setup) is.entries
        ∙ ap (λ ts. journal_text session.setup (journal_in_order session (order_behind session.setup ts is.front.lines))) same;
    fits = subst (λ ts. length (image_of (lines_behind-of ts)) ≤ most_stored) same (is.fits short);
  }
    where
      lines_behind-of : List ℕ → List (List ℕ)
      lines_behind-of ts = lines_in_order session (order_behind session.setup ts is.front.lines)

  pub lines-held : HoldsLinesBehind contents session image
  lines-held = record {
    front = is.front;
    place = is.place;
    holds = subst (λ ts. HoldsLines contents (lines_in_order session (order_behind session.setup ts is.front.lines)) is.place) same is.holds;
  }

-- ---- an input

pub same-parts : (a b : Parts) → let x : Option Parts = Some a in let y : Option Parts = Some b in x ≡ y → a ≡ b
same-parts a b e = cc

-- an image that is too long is not one that is not
pub long-or-short : (bytes : List ℕ) (session : Session) (image : List ℕ) → session_of_divided image_line bytes ≡ Ok (session, image) → ¬ HasLongImage bytes → length image ≤ most_stored
long-or-short bytes session image divided short =
    let read = read-parts image_line bytes image session divided in
    elim (cases_lt most_stored (length image)) [
      | inl long ↦ absurd (short (record { parts = read.parts; divided = read.divided; long = omega (arith, long, ap length read.behind) }))
      | inr few ↦ few
    ]

not-long : (bytes : List ℕ) (session : Session) (image : List ℕ) → HasImage bytes session image → ¬ HasLongImage bytes
not-long bytes session image has long =
    let read = read-parts image_line bytes image session has.divided in
    let same : long.parts ≡ read.parts = same-parts long.parts read.parts (sym long.divided ∙ read.divided) in
    omega (arith, long.long, has.short, ap length read.behind, ap (λ (p : Parts). length p.rest) same)

-- a session that was not recovered ends so
pub session-ends : (tells : Type 0) (bytes : List ℕ) (session : Session) (image : List ℕ) (end : Status) → HasImage bytes session image → EndsRecovering end
    → ((place : ℕ) → end ≡ status.BadImage place → tells → IsDamaged image place)
    → ((entry : ℕ) → end ≡ status.Illegal entry → tells → StoresWrongLine session image entry)
    → (end ≡ status.TooLong → tells → IsTooLargeBehind session session.turns image) → EndsInput tells bytes end
session-ends tells bytes session image status.NoMemory has ends bad illegal large = tt
session-ends tells bytes session image status.DiskFault has ends bad illegal large = record { session = session; image = image; has = has; of = tt }
session-ends tells bytes session image status.TooLong has ends bad illegal large = inr (record { session = session; image = image; has = has; of = large refl })
session-ends tells bytes session image (status.Illegal entry) has ends bad illegal large =
    record { session = session; image = image; has = has; of = illegal entry refl }
session-ends tells bytes session image (status.BadImage place) has ends bad illegal large =
    record { session = session; image = image; has = has; of = bad place refl }
session-ends tells bytes session image status.Done has ends bad illegal large = absurd ends
session-ends tells bytes session image status.Usage has ends bad illegal large = absurd ends
session-ends tells bytes session image status.ReadFault has ends bad illegal large = absurd ends
session-ends tells bytes session image status.WriteFault has ends bad illegal large = absurd ends
session-ends tells bytes session image (status.BadSession line) has ends bad illegal large = absurd ends

pub err-ends : {T : Type 0} (tells : Type 0) (bytes : List ℕ) (session : Session) (image : List ℕ) → HasImage bytes session image → (result : Result T Status) → IfErr result EndsRecovering
    → ((place : ℕ) → result ≡ Err (status.BadImage place) → tells → IsDamaged image place)
    → ((entry : ℕ) → result ≡ Err (status.Illegal entry) → tells → StoresWrongLine session image entry)
    → (result ≡ Err status.TooLong → tells → IsTooLargeBehind session session.turns image) → IfErr result (EndsInput tells bytes)
err-ends tells bytes session image has (Ok value) ends bad illegal large = tt
err-ends tells bytes session image has (Err end) ends bad illegal large =
    session-ends tells bytes session image end has ends (λ place e. bad place (ap Err e)) (λ entry e. illegal entry (ap Err e)) (λ e. large (ap Err e))

-- ---- no input was read

pub unread-early : (most : ℕ) (left new : Option (List ℕ)) (end : Status) → ReadsNone most left new end → end ≢ status.Done
unread-early most left new end none e = subst (ReadsNone most left new) e none

pub unread-recovered : (tells : Type 0) (bytes : List ℕ) (most : ℕ) (left new old : Option (List ℕ)) (end : Status) → ReadsNone most left new end → Recovered tells bytes end old old
unread-recovered tells bytes most left new old status.ReadFault none = tt
unread-recovered tells bytes most left new old status.TooLong none = tt
unread-recovered tells bytes most left new old status.NoMemory none = inl (Appends-nil old)
unread-recovered tells bytes most left new old status.Done none = absurd none
unread-recovered tells bytes most left new old status.Usage none = absurd none
unread-recovered tells bytes most left new old status.WriteFault none = absurd none
unread-recovered tells bytes most left new old status.DiskFault none = absurd none
unread-recovered tells bytes most left new old (status.BadSession line) none = absurd none
unread-recovered tells bytes most left new old (status.Illegal entry) none = absurd none
unread-recovered tells bytes most left new old (status.BadImage place) none = absurd none

pub unread-reads : (most : ℕ) (left new : Option (List ℕ)) (end : Status) → ReadsNone most left new end → end ≢ status.NoMemory → ReadsUpTo most left new end
unread-reads most left new status.ReadFault none some = none
unread-reads most left new status.TooLong none some = none
unread-reads most left new status.NoMemory none some = absurd (some refl)
unread-reads most left new status.Done none some = absurd none
unread-reads most left new status.Usage none some = absurd none
unread-reads most left new status.WriteFault none some = absurd none
unread-reads most left new status.DiskFault none some = absurd none
unread-reads most left new (status.BadSession line) none some = absurd none
unread-reads most left new (status.Illegal entry) none some = absurd none
unread-reads most left new (status.BadImage place) none some = absurd none

pub unread-completes : (bytes : List ℕ) (left new : Option (List ℕ)) (end : Status) → left ≡ Some bytes → length bytes ≤ longest_record → ReadsNone longest_record left new end
    → end ≢ status.ReadFault → EndsWell end
unread-completes bytes left new end is short none no_read =
    completes longest_record (λ text. Unit {0}) (λ line. ⊥) (λ entry. ⊥) bytes end left new left left is short (λ line bad. bad) (λ entry illegal. illegal)
    (answers end none) (unread-reads longest_record left new end none) (λ e. subst (ReadsNone longest_record left new) e none) no_read
    (λ e. subst (ReadsNone longest_record left new) e none)
  where
    answers : (s : Status) → ReadsNone longest_record left new s → Answers (λ text. Unit {0}) (λ line. ⊥) (λ entry. ⊥) s left left
    answers status.ReadFault none = tt
    answers status.TooLong none = tt
    answers status.NoMemory none = inl (Appends-nil left)
    answers status.Done none = absurd none
    answers status.Usage none = absurd none
    answers status.WriteFault none = absurd none
    answers status.DiskFault none = absurd none
    answers (status.BadSession line) none = absurd none
    answers (status.Illegal entry) none = absurd none
    answers (status.BadImage place) none = absurd none

-- ---- an input was read, but not recovered

-- a session with an image is no bad line
no-line : (pair : Session × List ℕ) (line : ℕ) → let read : Result (Session × List ℕ) ℕ = Ok pair in let bad : Result (Session × List ℕ) ℕ = Err line in read ≡ bad → ⊥
no-line pair line e = cc

module _ (tells : Type 0) (bytes : List ℕ) where
  pub ends-recovered : (end : Status) (old : Option (List ℕ)) → EndsInput tells bytes end → Recovered tells bytes end old old
  ends-recovered status.NoMemory old ends = inl (Appends-nil old)
  ends-recovered status.DiskFault old ends = ends
  ends-recovered status.TooLong old ends = tt
  ends-recovered (status.BadSession line) old ends = ends
  ends-recovered (status.Illegal entry) old ends = ends
  ends-recovered (status.BadImage place) old ends = ends
  ends-recovered status.Done old ends = absurd ends
  ends-recovered status.Usage old ends = absurd ends
  ends-recovered status.ReadFault old ends = absurd ends
  ends-recovered status.WriteFault old ends = absurd ends

  pub ends-not-done : (end : Status) → EndsInput tells bytes end → end ≢ status.Done
  ends-not-done end ends e = subst (EndsInput tells bytes) e ends

  pub ends-reads : (end : Status) (left new : Option (List ℕ)) → EndsInput tells bytes end → WasRead longest_record (Is bytes) left new → ReadsToRecover tells left new end
  ends-reads status.TooLong left new ends read = inr (
    refl,
    record {
      input = read.input;
      came = read.came;
      short = read.short;
      ended = read.ended;
      is = subst (λ b. HasLongImage b ⊎ IsTooLargeToRecover tells b) (sym read.is) ends;
    },
  )
  ends-reads status.NoMemory left new ends read = inl (has-read longest_record (Is bytes) left new status.NoMemory read (λ e. cc))
  ends-reads status.DiskFault left new ends read = inl (has-read longest_record (Is bytes) left new status.DiskFault read (λ e. cc))
  ends-reads (status.BadSession line) left new ends read = inl (has-read longest_record (Is bytes) left new (status.BadSession line) read (λ e. cc))
  ends-reads (status.Illegal entry) left new ends read = inl (has-read longest_record (Is bytes) left new (status.Illegal entry) read (λ e. cc))
  ends-reads (status.BadImage place) left new ends read = inl (has-read longest_record (Is bytes) left new (status.BadImage place) read (λ e. cc))
  ends-reads status.Done left new ends read = absurd ends
  ends-reads status.Usage left new ends read = absurd ends
  ends-reads status.ReadFault left new ends read = absurd ends
  ends-reads status.WriteFault left new ends read = absurd ends

  -- what else an input would have to be
  module _ (told : tells) (session : Session) (image : List ℕ) (has : HasImage bytes session image) (front : StoresRightLines session image)
      (fits : length (image_of (lines_behind session front.lines)) ≤ most_stored) where
    same-input : (other : Session) (behind : List ℕ) → HasImage bytes other behind → (other ≡ session) × (behind ≡ image)
    same-input other behind also =
        let same = inside (other, behind) (session, image) (sym also.divided ∙ has.divided) in
        (ap (λ (p : Session × List ℕ). p.0) same, ap (λ (p : Session × List ℕ). p.1) same)
      where
        inside : (a b : Session × List ℕ) → let one : Result (Session × List ℕ) ℕ = Ok a in let two : Result (Session × List ℕ) ℕ = Ok b in one ≡ two → a ≡ b
        inside a b e = cc

    -- what holds of some session and image holds of these
    of-these : (Of : Session → List ℕ → Type 0) → HasImageWith Of bytes → Of session image
    of-these Of some =
        let same = same-input some.session some.image some.has in
        subst (λ b. Of session b) same.1 (subst (λ s. Of s some.image) same.0 some.of)

    same-lines : (lines : List (List ℕ)) → StoresLines image lines → lines ≡ front.lines
    same-lines lines stores = (stores_unique image lines front.lines stores.0 front.stores.0 stores.1 front.stores.1).0

    not-wrong : (entry : ℕ) → ¬ StoresWrongLine session image entry
    not-wrong entry wrong =
        let first : IsFirstWrongAmong session (ended_lines front.lines) entry =
        subst (λ ls. IsFirstWrongAmong session (ended_lines ls) entry) (same-lines wrong.lines wrong.stores) wrong.wrong in
        first.wrong (front.right entry first.within)

    not-large : ¬ IsTooLargeBehind session session.turns image
    not-large large =
        let more : most_stored < length (image_of (lines_behind session front.lines)) =
        subst (λ ls. most_stored < length (image_of (lines_behind session ls))) (same-lines large.front.lines large.front.stores) large.large in
        omega (arith, more, fits)

    pub ends-completes : (end : Status) → EndsInput tells bytes end → end ≢ status.DiskFault → EndsWell end
    ends-completes status.NoMemory ends no_disk = inr refl
    ends-completes status.DiskFault ends no_disk = absurd (no_disk refl)
    ends-completes status.TooLong (inl long) no_disk = absurd (not-long bytes session image has long)
    ends-completes status.TooLong (inr large) no_disk =
        absurd (not-large (of-these (λ s i. tells → IsTooLargeBehind s s.turns i) large told))
    ends-completes (status.BadSession line) ends no_disk = absurd (no-line (session, image) line (sym has.divided ∙ ends.divided))
    ends-completes (status.Illegal entry) ends no_disk = absurd (not-wrong entry (of-these (λ s i. tells → StoresWrongLine s i entry) ends told))
    ends-completes (status.BadImage place) ends no_disk =
        absurd (damaged_stores_none image place (of-these (λ s i. tells → IsDamaged i place) ends told) front.lines front.stores.0 front.stores.1)
    ends-completes status.Done ends no_disk = absurd ends
    ends-completes status.Usage ends no_disk = absurd ends
    ends-completes status.ReadFault ends no_disk = absurd ends
    ends-completes status.WriteFault ends no_disk = absurd ends

-- ---- and recovered

pub written-recovered : (tells : Type 0) (bytes text : List ℕ) (end : Status) (old new : Option (List ℕ)) → IsRecoveredTextOf tells bytes text → Writes text end old new
    → Recovered tells bytes end old new
written-recovered tells bytes text end old new asked writes = by end writes (writes-answer (IsRecoveredTextOf tells bytes) (IsBadInput bytes) (HasWrongLine tells bytes) text end old new asked writes)
  where
    by : (s : Status) → Writes text s old new → Answers (IsRecoveredTextOf tells bytes) (IsBadInput bytes) (HasWrongLine tells bytes) s old new → Recovered tells bytes s old new
    by status.Done writes answers = answers
    by status.NoMemory writes answers = answers
    by status.WriteFault writes answers = answers
    by status.Usage writes answers = absurd writes
    by status.ReadFault writes answers = absurd writes
    by status.TooLong writes answers = absurd writes
    by (status.BadSession line) writes answers = absurd writes
    by (status.Illegal entry) writes answers = absurd writes
    by status.DiskFault writes answers = absurd writes
    by (status.BadImage place) writes answers = absurd writes
