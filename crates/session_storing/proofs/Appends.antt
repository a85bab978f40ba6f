-- What is stored while a session is played.
use Rattle.std.proofs.Common.{◌≡◌, ◌∙◌, All, ℕ, ◌+◌, ◌<◌, List, [], ◌∷◌, ◌++◌, append_assoc, cond, drop, get_or, length, length-append, nat_eq, take, take-append-drop, Option, refl, sym, ap, subst, arith}
use Rattle.std.proofs.lemmas.List.{get_or_at, map-append, take_more}
use Rattle.std.proofs.lemmas.List.Sums.{sum_by-append}
use Rattle.disk_model.specs.Contents.{Contents}
use Rattle.disk_model.specs.Moments.{LeavesOnly, MayLeave}
use Rattle.disk_model.proofs.Moments.{leaves_more, runs_on}
use Rattle.durable_journal.specs.Appending.{size_behind}
use Rattle.durable_journal.specs.Resting.{HoldsLines}
use Rattle.durable_journal.specs.Stored.{image_of}
use Rattle.durable_journal.proofs.Steps.{held_image}
use Rattle.market_model.specs.declared.entry.Entry.{Entry}
use Rattle.market_model.specs.declared.setup.Setup.{Setup}
use Rattle.market_model.specs.Naming.{IsEntryIn}
use Rattle.market_text.specs.Commands.{commands_of}
use Rattle.market_text.specs.declared.session.Session.{Session}
use Rattle.session_journal.proofs.Journals.{count-callers}
use Rattle.session_journal.proofs.Turns.{turn_comes}
use Rattle.journal_audit.specs.Course.{callers_of, entries_of}
use Rattle.stored_journal.specs.Lines.{StoresFront, stored_line, stored_lines}
use Rattle.stored_journal.proofs.Fronts.{IsFront, front-more, stores-front}
use Rattle.stored_journal.proofs.Lines.{image-more, lines-more}
use Rattle.session_storing.specs.Playing.{HasCommandsFor, IsPlaying, PlayState, lines_in_order, lines_played, turns_of}
use Rattle.session_storing.proofs.Orders.{order-front}
use Rattle.session_storing.proofs.Plays.{waiting-count}

-- what is played is what is stored of its callers
pub played-lines : (session : Session) (state : PlayState) → IsPlaying session state → lines_played state ≡ lines_in_order session (callers_of state.entries)
played-lines session state is = (λ i. stored_lines (is.setup i) (is.journal i))

-- one more entry
abbrev pub Grew : (old : PlayState) (caller : ℕ) (new : PlayState) → Type 0
Grew old caller new = (entry : Entry) × (new.entries ≡ old.entries ++ entry ∷ []) × (entry.caller ≡ caller)

module _ (old new : PlayState) (setup : Setup) (entries : List Entry) (last : Entry) (its : setup ≡ new.setup) (all : entries ≡ new.entries)
    (ends : (before : List Entry) (entry : Entry) → entries ≡ before ++ entry ∷ [] → last ≡ entry) where
  -- the line that is stored of the last entry is behind the others
  pub lines-grew : new.setup ≡ old.setup → (caller : ℕ) → Grew old caller new → lines_played old ++ stored_line setup (length entries) last ∷ [] ≡ lines_played new
  lines-grew same caller grew =
      let count : length entries ≡ length old.entries + 1 = ap length (all ∙ grew.1) ∙ length-append old.entries (grew.0 ∷ []) in
      (λ i. stored_lines (sym same i) old.entries ++ stored_line (its i) (count i) (ends old.entries grew.0 (all ∙ grew.1) i) ∷ [])
      ∙ sym (ap (stored_lines new.setup) grew.1 ∙ lines-more new.setup old.entries grew.0)

  -- the last entry names what the setup has
  pub last-within : (session : Session) → IsPlaying session new → (entry : Entry) → new.entries ≡ old.entries ++ entry ∷ [] → IsEntryIn setup last
  last-within session is entry grew =
      subst (λ s. IsEntryIn s last) (sym (its ∙ is.setup)) (subst (IsEntryIn session.setup) (sym (ends old.entries entry (all ∙ grew)))
      (last-named (IsEntryIn session.setup) old.entries entry (subst (All (IsEntryIn session.setup)) grew is.named)))
    where
      -- what holds of all entries holds of the last
      last-named : (P : Entry → Type 0) (entries : List Entry) (last : Entry) → All P (entries ++ last ∷ []) → P last
      last-named P entries last all =
          subst P (get_or_at entries last [] last (length entries) refl) (all (length entries) last (omega (arith, length-append entries (last ∷ []))))

pub lines-then : (old : PlayState) (caller : ℕ) (new : PlayState) → Grew old caller new → (session : Session) → IsPlaying session new
    → lines_played new ≡ lines_in_order session (callers_of old.entries ++ caller ∷ [])
lines-then old caller new grew session is =
    played-lines session new is
    ∙ ap (lines_in_order session) (ap callers_of grew.1 ∙ map-append (λ (e : Entry). e.caller) old.entries (grew.0 ∷ []) ∙ ap (λ c. callers_of old.entries ++ c ∷ []) grew.2)

-- the lines so far are the first of those of all turns
pub front-of : (session : Session) (state : PlayState) (turns : List ℕ) → IsPlaying session state → IsFront (lines_played state) (lines_in_order session (callers_of state.entries ++ turns))
front-of session state turns is =
    subst (λ lines. IsFront lines (lines_in_order session (callers_of state.entries ++ turns))) (sym (played-lines session state is)) (order-front session (callers_of state.entries) turns)

-- a disk that holds lines leaves the first of those of all turns
pub holds-front : (session : Session) (state : PlayState) (turns : List ℕ) → IsPlaying session state → (contents : Option Contents) (place : ℕ) → HoldsLines contents (lines_played state) place
    → (image : List ℕ) → MayLeave contents image → StoresFront (lines_in_order session (callers_of state.entries ++ turns)) image
holds-front session state turns is contents place holds image leaves =
    stores-front (lines_played state) (lines_in_order session (callers_of state.entries ++ turns)) image (front-of session state turns is)
    (held_image contents (lines_played state) place holds image leaves)

module _ (session : Session) (callers turns : List ℕ) (entries : List Entry) (i : ℕ) (upto : callers_of entries ≡ callers ++ take i turns) (within : i < length turns) where
  -- the turns up to one and that one are the first of all
  pub turns-front : IsFront (lines_in_order session (callers_of entries ++ get_or turns i 0 ∷ [])) (lines_in_order session (callers ++ turns))
  turns-front =
      let more : callers_of entries ++ get_or turns i 0 ∷ [] ≡ callers ++ take (i + 1) turns =
      ap (λ cs. cs ++ get_or turns i 0 ∷ []) upto ∙ append_assoc callers (take i turns) (get_or turns i 0 ∷ []) ∙ ap (λ ts. callers ++ ts) (sym (take_more turns i 0 within)) in
      let whole : (callers ++ take (i + 1) turns) ++ drop (i + 1) turns ≡ callers ++ turns =
      append_assoc callers (take (i + 1) turns) (drop (i + 1) turns) ∙ ap (λ ts. callers ++ ts) (take-append-drop (i + 1) turns) in
      subst (λ order. IsFront (lines_in_order session order) (lines_in_order session (callers ++ turns))) (sym more)
      (subst (λ order. IsFront (lines_in_order session (callers ++ take (i + 1) turns)) (lines_in_order session order)) whole
      (order-front session (callers ++ take (i + 1) turns) (drop (i + 1) turns)))

  -- and what they leave is the first part of what all leave
  pub turn-leaves : {D : Type 0} (moment : D → ℕ) (left_since : D → ℕ → List ℕ → Type 0) (old mid new : D)
      → LeavesOnly moment left_since old mid (StoresFront (lines_in_order session (callers ++ turns)))
      → LeavesOnly moment left_since mid new (StoresFront (lines_in_order session (callers_of entries ++ get_or turns i 0 ∷ [])))
      → LeavesOnly moment left_since old new (StoresFront (lines_in_order session (callers ++ turns)))
  turn-leaves moment left_since old mid new before here =
      let now = lines_in_order session (callers_of entries ++ get_or turns i 0 ∷ []) in
      let whole = lines_in_order session (callers ++ turns) in
      runs_on moment left_since old mid new (StoresFront whole) before
      (leaves_more moment left_since mid new (StoresFront now) (StoresFront whole) (λ image stores. front-more now whole image turns-front stores) here)

-- whose turn it is has a command left
pub some-waits : (session : Session) (old now : PlayState) (turns : List ℕ) (i : ℕ) → IsPlaying session old → IsPlaying session now → HasCommandsFor old turns
    → callers_of now.entries ≡ callers_of old.entries ++ take i turns → i < length turns → 0 < length (commands_of now.waiting (get_or turns i 0))
some-waits session old now turns i was is has callers within =
    let turn = get_or turns i 0 in
    let comes = turn_comes turns i within in
    let before = waiting-count session old was turn in
    let after = waiting-count session now is turn in
    let enough = has.enough turn in
    let counts : entries_of now.entries turn ≡ entries_of old.entries turn + turns_of (take i turns) turn =
    count-callers now.entries turn ∙ ap (λ cs. turns_of cs turn) callers ∙ turns-append (callers_of old.entries) (take i turns) turn
    ∙ ap (λ n. n + turns_of (take i turns) turn) (sym (count-callers old.entries turn)) in
    omega (arith, comes, before, after, enough, counts)
  where
    turns-append : (first rest : List ℕ) (caller : ℕ) → turns_of (first ++ rest) caller ≡ turns_of first caller + turns_of rest caller
    turns-append first rest caller = sum_by-append (λ t. cond (nat_eq t caller) 1 0) first rest

-- ---- a whole session

-- the line behind those that a disk holds has so many bytes up to the closed gate
pub behind-size : (lines : List (List ℕ)) (line : List ℕ) (contents : Option Contents) (place : ℕ) → HoldsLines contents lines place
    → size_behind place line ≡ length (image_of (lines ++ line ∷ []))
behind-size lines line contents place holds = sym (image-more lines line place holds.ends.end)
