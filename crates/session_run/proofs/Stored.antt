-- A session that is played over a disk, and what `store` answers of it.
use Rattle.std.proofs.Common.{◌≡◌, ◌≢◌, ◌∙◌, inl, inr, ℕ, ◌<◌, ◌≤◌, true≢false, List, [], Option, Some, None, Result, Ok, Err, IfOk, OnOk, length, refl, sym, ap, subst, arith}
use Rattle.std.proofs.KnownBytes.{Appends-nil}
use Rattle.disk_model.specs.Contents.{Contents, settled}
use Rattle.disk_model.specs.Moments.{MayLeave}
use Rattle.disk_model.proofs.Images.{settled_image}
use Rattle.disk_model.proofs.Moments.{told_image}
use Rattle.durable_journal.specs.Appending.{most_stored}
use Rattle.durable_journal.specs.Stored.{StoresLines, image_of}
use Rattle.durable_journal.proofs.Steps.{short_stores}
use Rattle.market_text.specs.declared.session.Session.{Session}
use Rattle.market_text.specs.Session.{IsSession}
use Rattle.market_text.specs.Text.{session_of_text}
use Rattle.session_io.specs.Reading.{longest_session}
use Rattle.session_journal.proofs.Graphs.{makes-graph}
use Rattle.session_journal.proofs.Once.{as-many}
use Rattle.trade_journal.specs.Journals.{JournalState}
use Rattle.zone_graph.specs.Grid.{JoinsZones}
use Rattle.zone_graph.specs.GridFault.{grid_fault}
use Rattle.market_model.specs.Grid.{graph_of}
use Rattle.market_model.specs.declared.command.Command.{Command}
use Rattle.session_storing.proofs.Plays.{begins-playing}
use Rattle.session_io.specs.declared.status.Status.{Status}
use Rattle.session_io.specs.declared.status.Status.TheVariants as status
use Rattle.session_io.specs.Outcomes.{EndsWell}
use Rattle.session_io.specs.Sources.{Stops, WasRead}
use Rattle.session_io.specs.Status.{stops_reading}
use Rattle.session_io.proofs.Answering.{answers-nothing, answers-on-disk, has-read, is-known}
use Rattle.session_io.proofs.Completion.{completes}
use Rattle.record_run.specs.Writing.{Writes}
use Rattle.record_run.proofs.Written.{writes-answer}
use Rattle.stored_journal.specs.Lines.{StoresFront, TellsContents}
use Rattle.stored_journal.proofs.Fronts.{stores-front}
use Rattle.session_storing.specs.Playing.{HasCommandsFor, IsPlaying, PlayState}
use Rattle.session_run.specs.Reading.{HasNoEntry, IsBadText, IsTextOf}
use Rattle.session_storing.specs.Outcomes.{EndsStoring}
use Rattle.session_run.specs.Storing.{IsEmptyDisk, IsStoredJournalOf, ReadsToStore, Stored, StoresPart, StoresPartOf, lines_of_session}

-- ---- playing

-- each caller has as many commands as turns
pub has-commands : (session : Session) → IsSession session → (state : PlayState) → state ≡ record { setup = session.setup; waiting = session.commands; entries = [] }
    → HasCommandsFor state session.turns
has-commands session is_session state is = subst (λ s. HasCommandsFor s session.turns) (sym is) (record {
  known = is_session.known;
  enough = λ caller. let own = as-many session is_session caller in omega (arith, own);
})

-- a market without an entry, with all commands of a session waiting, plays the session
pub desk-plays : (session : Session) → IsSession session → JoinsZones (graph_of session.setup) → grid_fault (graph_of session.setup) ≡ None → (market : JournalState) (waiting : List (List Command))
    → market ≡ record { setup = session.setup; entries = [] } → waiting ≡ session.commands
    → IsPlaying session (record { setup = market.setup; waiting = waiting; entries = market.entries })
desk-plays session is_session joined sound market waiting new all =
    begins-playing session (record { setup = market.setup; waiting = waiting; entries = market.entries }) is_session (makes-graph (graph_of session.setup) joined sound)
    (λ i. record { setup = (new i).setup; waiting = all i; entries = (new i).entries })

-- ---- what is on the disk

-- a disk that is empty and tells its contents
pub told-empty : (contents : Option Contents) → IsEmptyDisk contents → TellsContents contents → contents ≡ Some (settled [])
told-empty contents empty tells = tells.1 ∙ ap (λ told. Some told) (empty tells.0 tells.1)

-- an image that stores no line stores the first of any
pub none-of : (lines : List (List ℕ)) (image : List ℕ) → StoresLines image [] → StoresFront lines image
none-of lines image stores = stores-front [] lines image (record { rest = lines; whole = refl }) stores

-- a crash leaves nothing of an empty disk
pub empty-front : (contents : Option Contents) (lines : List (List ℕ)) → contents ≡ Some (settled []) → (image : List ℕ) → MayLeave contents image → StoresFront lines image
empty-front contents lines tells image leaves =
    none-of lines image (subst (λ is. StoresLines is []) (sym (settled_image [] image (told_image contents (settled []) tells image leaves))) (short_stores [] (omega arith)))

-- before anything is written
pub nothing-yet : (bytes : List ℕ) (contents : Option Contents) → contents ≡ Some (settled []) → (image : List ℕ) → MayLeave contents image → StoresPartOf bytes image
nothing-yet bytes contents tells image leaves = by (session_of_text bytes)
  where
    none : StoresLines image []
    none = subst (λ is. StoresLines is []) (sym (settled_image [] image (told_image contents (settled []) tells image leaves))) (short_stores [] (omega arith))

    by : (read : Result Session ℕ) → StoresPart read image
    by (Ok session) = none-of (lines_of_session session) image none
    by (Err line) = none

-- what stores the first lines of a session does so for its text
pub part-of : (bytes : List ℕ) (session : Session) (image : List ℕ) → session_of_text bytes ≡ Ok session → StoresFront (lines_of_session session) image → StoresPartOf bytes image
part-of bytes session image read stores = subst (λ r. StoresPart r image) (sym read) stores

-- ---- no session was read

module _ (left new : Option (List ℕ)) (end : Status) (stops : Stops longest_session IsBadText HasNoEntry left new end) where
  pub unread-answers : (tells : Type 0) (bytes : List ℕ) (old : Option (List ℕ)) → left ≡ Some bytes → Stored tells bytes end old old
  unread-answers tells bytes old is =
      answers-on-disk (λ image. tells → IsStoredJournalOf bytes image) (IsBadText bytes) (HasNoEntry bytes) (λ place. ¬ tells) end old old
      (answers-nothing longest_session (λ image. tells → IsStoredJournalOf bytes image) IsBadText HasNoEntry left new end bytes old stops is)

  pub unread-completes : (bytes : List ℕ) (session : Session) → left ≡ Some bytes → session_of_text bytes ≡ Ok session → length bytes ≤ longest_session
      → end ≢ status.ReadFault → EndsWell end
  unread-completes bytes session is read short no_read =
      completes longest_session (λ image. Unit {0}) (IsBadText bytes) (HasNoEntry bytes) bytes end left new left left is short
      (λ line bad. let none : Ok session ≡ Err line = sym read ∙ bad in cc) (λ entry illegal. illegal)
      (answers-nothing longest_session (λ image. Unit {0}) IsBadText HasNoEntry left new end bytes left stops is) stops.reads
      (λ e. true≢false (sym stops.early ∙ ap stops_reading e)) no_read (λ e. true≢false (sym stops.early ∙ ap stops_reading e))

  pub unread-not-done : end ≢ status.Done
  unread-not-done e = true≢false (sym stops.early ∙ ap stops_reading e)

-- ---- a session was read

-- it is the session of the text
pub session-is : (session : Session) (left new : Option (List ℕ)) (bytes : List ℕ) → WasRead longest_session (IsTextOf session) left new → left ≡ Some bytes
    → session_of_text bytes ≡ Ok session
session-is session left new bytes read is = is-known longest_session (IsTextOf session) left new bytes read is

pub same-session : (bytes : List ℕ) (one other : Session) → session_of_text bytes ≡ Ok one → session_of_text bytes ≡ Ok other → one ≡ other
same-session bytes one other first second = inside one other (sym first ∙ second)
  where
    inside : (a b : Session) → let x : Result Session ℕ = Ok a in let y : Result Session ℕ = Ok b in x ≡ y → a ≡ b
    inside a b e = cc

-- but not stored
pub unstored-answers : (tells : Type 0) (bytes : List ℕ) (end : Status) (old : Option (List ℕ)) → EndsStoring end → ((place : ℕ) → end ≡ status.BadImage place → ¬ tells)
    → Stored tells bytes end old old
unstored-answers tells bytes status.NoMemory old ends bad = inl (Appends-nil old)
unstored-answers tells bytes status.DiskFault old ends bad = tt
unstored-answers tells bytes status.TooLong old ends bad = tt
unstored-answers tells bytes (status.BadImage place) old ends bad = bad place refl
unstored-answers tells bytes status.Done old ends bad = absurd ends
unstored-answers tells bytes status.Usage old ends bad = absurd ends
unstored-answers tells bytes status.ReadFault old ends bad = absurd ends
unstored-answers tells bytes status.WriteFault old ends bad = absurd ends
unstored-answers tells bytes (status.BadSession line) old ends bad = absurd ends
unstored-answers tells bytes (status.Illegal entry) old ends bad = absurd ends

pub unstored-reads : (tells : Type 0) (session : Session) (end : Status) (left new : Option (List ℕ)) → EndsStoring end → WasRead longest_session (IsTextOf session) left new
    → (tells → end ≡ status.TooLong → most_stored < length (image_of (lines_of_session session))) → ReadsToStore tells left new end
unstored-reads tells session status.NoMemory left new ends read large = inl (has-read longest_session (IsTextOf session) left new status.NoMemory read (λ e. cc))
unstored-reads tells session status.DiskFault left new ends read large = inl (has-read longest_session (IsTextOf session) left new status.DiskFault read (λ e. cc))
unstored-reads tells session (status.BadImage place) left new ends read large =
    inl (has-read longest_session (IsTextOf session) left new (status.BadImage place) read (λ e. cc))
unstored-reads tells session status.TooLong left new ends read large = inr (
  refl,
  record {
    input = read.input;
    came = read.came;
    short = read.short;
    ended = read.ended;
    is = λ told. record { session = session; read = read.is; large = large told refl };
  },
)
unstored-reads tells session status.Done left new ends read large = absurd ends
unstored-reads tells session status.Usage left new ends read large = absurd ends
unstored-reads tells session status.ReadFault left new ends read large = absurd ends
unstored-reads tells session status.WriteFault left new ends read large = absurd ends
unstored-reads tells session (status.BadSession line) left new ends read large = absurd ends
unstored-reads tells session (status.Illegal entry) left new ends read large = absurd ends

pub unstored-completes : (end : Status) → EndsStoring end → end ≢ status.DiskFault → end ≢ status.TooLong → ((place : ℕ) → end ≢ status.BadImage place) → EndsWell end
unstored-completes status.NoMemory ends no_disk short whole = inr refl
unstored-completes status.DiskFault ends no_disk short whole = absurd (no_disk refl)
unstored-completes status.TooLong ends no_disk short whole = absurd (short refl)
unstored-completes (status.BadImage place) ends no_disk short whole = absurd (whole place refl)
unstored-completes status.Done ends no_disk short whole = absurd ends
unstored-completes status.Usage ends no_disk short whole = absurd ends
unstored-completes status.ReadFault ends no_disk short whole = absurd ends
unstored-completes status.WriteFault ends no_disk short whole = absurd ends
unstored-completes (status.BadSession line) ends no_disk short whole = absurd ends
unstored-completes (status.Illegal entry) ends no_disk short whole = absurd ends

-- nor does it end in one of the other ways
pub unstored-not-done : (end : Status) → EndsStoring end → end ≢ status.Done
unstored-not-done end ends e = subst EndsStoring e ends

-- ---- and stored

pub stored-answers : (tells : Type 0) (bytes image : List ℕ) (end : Status) (old new : Option (List ℕ)) → (tells → IsStoredJournalOf bytes image) → Writes image end old new
    → Stored tells bytes end old new
stored-answers tells bytes image end old new asked writes =
    answers-on-disk (λ image. tells → IsStoredJournalOf bytes image) (IsBadText bytes) (HasNoEntry bytes) (λ place. ¬ tells) end old new
    (writes-answer (λ image. tells → IsStoredJournalOf bytes image) (IsBadText bytes) (HasNoEntry bytes) image end old new asked writes)

pub written-completes : (text : List ℕ) (end : Status) (old new : Option (List ℕ)) → Writes text end old new → end ≢ status.WriteFault → EndsWell end
written-completes text status.Done old new writes no_write = inl refl
written-completes text status.NoMemory old new writes no_write = inr refl
written-completes text status.WriteFault old new writes no_write = absurd (no_write refl)
written-completes text status.Usage old new writes no_write = absurd writes
written-completes text status.ReadFault old new writes no_write = absurd writes
written-completes text status.TooLong old new writes no_write = absurd writes
written-completes text (status.BadSession line) old new writes no_write = absurd writes
written-completes text (status.Illegal entry) old new writes no_write = absurd writes
written-completes text status.DiskFault old new writes no_write = absurd writes
written-completes text (status.BadImage place) old new writes no_write = absurd writes

-- what was written was not too long
pub written-short : (text : List ℕ) (end : Status) (old new : Option (List ℕ)) → Writes text end old new → end ≢ status.TooLong
written-short text end old new writes e = subst (λ s. Writes text s old new) e writes

-- ---- under a premise

pub later-ok : {T E : Type 0} (result : Result T E) (Q : Type 0) (P : T → Type 0) → (Q → IfOk result P) → IfOk result (λ value. Q → P value)
later-ok (Ok value) Q P holds = holds
later-ok (Err error) Q P holds = tt

pub later-done : {T E : Type 0} (result : Result T E) (Q P : Type 0) → (Q → OnOk result P) → OnOk result (Q → P)
later-done (Ok value) Q P holds = holds
later-done (Err error) Q P holds = tt
