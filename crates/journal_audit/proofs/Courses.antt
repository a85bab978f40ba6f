-- The course of an audit: what it knows before the next command, and after it.
use Rattle.std.proofs.Common.{◌≡◌, ◌∙◌, inl, inr, ℕ, zero, suc, ◌+◌, ◌*◌, ◌<◌, ◌≤◌, Bool, true, false, not, cond, All, List, [], ◌∷◌, ◌++◌, eqb-true, get_or, get_or-set_other, get_or-set_same, length, length-append, map, nat_eq, replicate, slice_get, slice_index, slice_set, Some, refl, sym, ap, subst, arith}
use Rattle.std.specs.List.{sum, sum_by}
use Rattle.std.specs.Option.{option_map}
use Rattle.std.specs.Prelude.{unwrap_or}
use Rattle.std.proofs.Math.ListN.{get_or-map, length-set}
use Rattle.std.proofs.lemmas.Bool.{eqb-false, false≢true}
use Rattle.std.proofs.lemmas.Bool.Decides.{Decides-eqb}
use Rattle.std.proofs.lemmas.Slice.Eq.{slice_eq-Decides}
use Rattle.std.specs.Cmp.Lexicographic.{pointwise}
use Rattle.std.proofs.lemmas.List.{length-replicate, map-append}
use Rattle.std.proofs.lemmas.List.Elements.{All-head, All-nil, All-push, All-tail}
use Rattle.std.proofs.lemmas.List.Sums.{count_by-le-length, sum-map, sum_by-append, sum_by-cons}
use Rattle.zone_graph.specs.Route.{IsIn}
use Rattle.market_model.specs.declared.command.Command.{Command}
use Rattle.market_model.specs.declared.entry.Entry.{Entry}
use Rattle.market_model.specs.declared.setup.Caller.{Caller}
use Rattle.market_model.specs.declared.setup.Setup.{Setup}
use Rattle.market_model.specs.History.{entered_count, enters, events_of, journal_events}
use Rattle.market_model.specs.Market.{Turn, entry_of, in_turn, reply_to, run_after, run_of, turn_of, IsLegal}
use Rattle.market_model.specs.Naming.{IsEntryIn}
use Rattle.market_model.specs.Sweep.{all_parts}
use Rattle.market_model.specs.WellFormed.{IsHistory, IsMarketSetup}
use Rattle.laws_of_market.proofs.Journals.{journal_events-more, run-history}
use Rattle.market_text.specs.Commands.{commands_of}
use Rattle.market_text.specs.Session.{IsSession}
use Rattle.market_text.specs.declared.session.Session.{Session}
use Rattle.laws_of_market.proofs.ReplyEntries.{reply-enters-few}
use Rattle.laws_of_market.proofs.ReplyNames.{reply-names}
use Rattle.session_journal.proofs.Once.{as-many}
use Rattle.plain_orders.specs.DaySums.{AreDaySums, nothing_summed}
use Rattle.plain_orders.proofs.Kept.{day_sums-none}
use Rattle.trade_journal.specs.Journals.{all_rooms, room_of_caller}
use Rattle.trade_journal.proofs.Rooms.{entries-fit}
use Rattle.journal_audit.specs.Course.{IsCourse, IsNextLine, callers_of, entries_of, next_entry}
use Rattle.journal_audit.specs.declared.course.Course.{Course}
use Rattle.journal_audit.specs.Lines.{caller_named}
use Rattle.journal_audit.proofs.Audits.{IsJournal}
use Rattle.journal_audit.proofs.NextEntries.{command_at, journal-more, next-some, within}

-- ---- how many entries there are

room-at : (callers : List Caller) (k : ℕ) → unwrap_or (option_map (λ (own : Caller). own.room) (slice_get callers k)) 0 ≡ get_or (map (λ (own : Caller). own.room) callers) k 0
room-at [] k = refl
room-at (own ∷ callers) zero = refl
room-at (own ∷ callers) (suc k) = room-at callers k

lists-few : (lists : List (List Command)) → ((k : ℕ) → length (get_or lists k []) ≤ 262144) → sum_by length lists ≤ length lists * 262144
lists-few [] few = omega arith
lists-few (list ∷ lists) few =
    let first = few 0 in
    let rest = lists-few lists (λ k. few (suc k)) in
    let sums = sum_by-cons length list lists in
    omega (arith, first, rest, sums)

-- what holds of all entries holds of each
each-of : (P : Entry → Type 0) (entries : List Entry) (entry : Entry) → All P entries → IsIn entry entries → P entry
each-of P [] entry all (is) = absurd is
each-of P (first ∷ rest) entry all (inl same) = subst P (sym same) (All-head P first rest all)
each-of P (first ∷ rest) entry all (inr later) = each-of P rest entry (All-tail P first rest all) later

module _ (session : Session) (is_session : IsSession session) where
  -- a caller has room for its commands
  room-is : (caller : ℕ) → room_of_caller session.setup caller ≡ length (commands_of session.commands caller)
  room-is caller = room-at session.setup.callers caller ∙ ap (λ ns. get_or ns caller 0) is_session.rooms ∙ get_or-map length session.commands caller []

  pub commands-few : (caller : ℕ) → length (commands_of session.commands caller) ≤ 262144
  commands-few caller =
      let own = as-many session is_session caller in
      let most = count_by-le-length (λ turn. nat_eq turn caller) session.turns in
      let few = is_session.few in
      omega (arith, own, most, few)

  rooms-few : all_rooms session.setup ≤ 64 * 262144
  rooms-few =
      let all = sym (sum-map (λ (own : Caller). own.room) session.setup.callers) ∙ ap sum is_session.rooms ∙ sum-map length session.commands in
      let most = lists-few session.commands commands-few in
      let callers = is_session.few_callers in
      let matched = is_session.matched in
      omega (arith, all, most, callers, matched)

  -- a course has few entries
  pub entries-few : (course : Course) → IsCourse session course → length course.entries ≤ 64 * 262144
  entries-few course is =
      let fit = entries-fit session.setup course.entries (λ entry among. (each-of (IsEntryIn session.setup) course.entries entry is.named among).caller) (λ caller. subst (λ n. entries_of course.entries caller ≤ n) (sym (room-is caller)) (is.given caller)) in
      let few = rooms-few in
      omega (arith, fit, few)

-- ---- the first course

zeros : (n caller : ℕ) → slice_index (replicate n 0) caller ≡ 0
zeros zero caller = refl
zeros (suc n) zero = refl
zeros (suc n) (suc caller) = zeros n caller

-- before any command
pub course-new : (session : Session) (count : ℕ) → count ≡ length session.commands → IsCourse session (record { given = replicate count 0; history = []; entries = []; sums = nothing_summed })
unfolding run_after
course-new session count is = record {
  journal = refl;
  happened = refl;
  matched = length-replicate count 0 ∙ is;
  counted = zeros count;
  given = λ caller. omega arith;
  few = omega arith;
  named = All-nil (IsEntryIn session.setup);
  summed = day_sums-none [];
}

-- ---- the next entry

-- the entry of a caller's command after a course
abbrev pub made : (setup : Setup) → Course → (caller : ℕ) → Command → Entry
made setup course caller command = record {
  caller = caller;
  nth = slice_index course.given caller + 1;
  command = command;
  reply = reply_to setup course.history caller command;
}

module _ (session : Session) (course : Course) (is : IsCourse session course) where
  pub journal-of : IsJournal session course.entries
  journal-of = record { journal = is.journal; given = is.given }

  module _ (is_setup : IsMarketSetup session.setup) where
    -- its history is well-formed
    pub course-history : IsHistory session.setup course.history
    course-history =
        subst (IsHistory session.setup) (sym (is.happened ∙ ap journal_events is.journal))
        (run-history session.setup is_setup all_parts (in_turn session.commands (callers_of course.entries)))

    -- what is made names what the setup has
    pub made-named : (caller : ℕ) (command : Command) → caller < length session.setup.callers → IsEntryIn session.setup (made session.setup course caller command)
    made-named caller command known = record { caller = known; reply = reply-names session.setup course.history caller command is_setup course-history }

  module _ (caller : ℕ) (command : Command) (given : command_at session.commands caller (slice_index course.given caller) ≡ Some command) where
    -- it is the next entry of its caller
    pub made-next : next_entry session course.entries caller ≡ Some (made session.setup course caller command)
    made-next =
        next-some session course.entries caller command (ap (command_at session.commands caller) (sym (is.counted caller)) ∙ given)
        ∙ ap (λ n. Some (record { caller = caller; nth = n + 1; command = command; reply = reply_to session.setup (journal_events course.entries) caller command })) (sym (is.counted caller))
        ∙ ap (λ events. Some (record { caller = caller; nth = slice_index course.given caller + 1; command = command; reply = reply_to session.setup events caller command })) (sym is.happened)

    -- and no other is, for a line that names the caller
    pub made-alone : (line : List ℕ) (entry : Entry) → caller_named session.setup line ≡ Some caller → IsNextLine session course.entries line entry
        → entry ≡ made session.setup course caller command
    made-alone line entry named next =
        let same : entry.caller ≡ caller = cc (named, next.named) in
        let its : next_entry session course.entries caller ≡ Some entry = subst (λ c. next_entry session course.entries c ≡ Some entry) same next.next in
        let mine = made-next in
        cc

    -- one more of a caller
    entries-of-more : (other : ℕ) → entries_of (course.entries ++ made session.setup course caller command ∷ []) other ≡ entries_of course.entries other + cond (nat_eq caller other) 1 0
    entries-of-more other =
        let test : Entry → ℕ = λ entry. cond (nat_eq entry.caller other) 1 0 in
        let parts = sum_by-append test course.entries (made session.setup course caller command ∷ []) in
        let last = sum_by-cons test (made session.setup course caller command) [] in
        omega (arith, parts, last)

    -- the course after it
    pub course-more : (after : Course) → IsMarketSetup session.setup → caller < length session.setup.callers → caller < length course.given
        → after.given ≡ slice_set course.given caller (slice_index course.given caller + 1)
        → after.history ≡ course.history ++ events_of (reply_to session.setup course.history caller command)
        → after.entries ≡ course.entries ++ made session.setup course caller command ∷ []
        → AreDaySums after.history after.sums
        → IsCourse session after
    course-more after is_setup known there gave happened grew summed = record {
      journal = grew ∙ journal-more session course.entries caller entry is.journal made-next
          ∙ ap (λ callers. run_of session.setup (in_turn session.commands callers)) (sym (ap callers_of grew ∙ map-append (λ (e : Entry). e.caller) course.entries (entry ∷ [])));
      happened = happened ∙ ap (λ es. es ++ events_of entry.reply) is.happened ∙ sym (ap journal_events grew ∙ journal_events-more course.entries entry);
      matched = ap length gave ∙ length-set course.given caller (slice_index course.given caller + 1) ∙ is.matched;
      counted = λ other. ap (λ given. slice_index given other) gave ∙ counts other (nat_eq caller other) refl ∙ sym (ap (λ es. entries_of es other) grew ∙ entries-of-more other);
      given = λ other. subst (λ es. entries_of es other ≤ length (commands_of session.commands other)) (sym grew) (most other (nat_eq caller other) refl);
      few = subst (λ events. entered_count events ≤ 8 * length after.entries) (sym happened)
          (subst (λ es. entered_count (course.history ++ events_of entry.reply) ≤ 8 * length es) (sym grew)
          (omega (arith, sum_by-append (λ event. cond (enters event) 1 0) course.history (events_of entry.reply), length-append course.entries (entry ∷ []), is.few, few)));
      named = subst (All (IsEntryIn session.setup)) (sym grew) (All-push (IsEntryIn session.setup) course.entries entry is.named (made-named is_setup caller command known));
      summed = summed;
    }
      where
        entry : Entry
        entry = made session.setup course caller command

        few : entered_count (events_of entry.reply) ≤ 8
        few = reply-enters-few session.setup course.history caller command

        counts : (other : ℕ) (b : Bool) → nat_eq caller other ≡ b
            → slice_index (slice_set course.given caller (slice_index course.given caller + 1)) other ≡ entries_of course.entries other + cond (nat_eq caller other) 1 0
        counts other true e =
            let same : caller ≡ other = eqb-true caller other e in
            ap (slice_index (slice_set course.given caller (slice_index course.given caller + 1))) (sym same)
            ∙ get_or-set_same course.given caller (slice_index course.given caller + 1) 0 there
            ∙ ap (λ n. n + 1) (ap (slice_index course.given) same ∙ is.counted other)
            ∙ ap (λ b. entries_of course.entries other + cond b 1 0) (sym e)
        counts other false e =
            let none : entries_of course.entries other + cond (nat_eq caller other) 1 0 ≡ entries_of course.entries other =
            ap (λ b. entries_of course.entries other + cond b 1 0) e ∙ omega arith in
            get_or-set_other course.given caller other (slice_index course.given caller + 1) 0 (λ same. eqb-false caller other e (sym same))
            ∙ is.counted other ∙ sym none

        most : (other : ℕ) (b : Bool) → nat_eq caller other ≡ b → entries_of (course.entries ++ entry ∷ []) other ≤ length (commands_of session.commands other)
        most other true e =
            let one : entries_of (course.entries ++ entry ∷ []) other ≡ entries_of course.entries other + 1 =
            entries-of-more other ∙ ap (λ b. entries_of course.entries other + cond b 1 0) e in
            let own : slice_index course.given caller < length (commands_of session.commands caller) =
            within (commands_of session.commands caller) (slice_index course.given caller) command given in
            let its : slice_index course.given other < length (commands_of session.commands other) =
            subst (λ c. slice_index course.given c < length (commands_of session.commands c)) (eqb-true caller other e) own in
            omega (arith, one, its, is.counted other)
        most other false e =
            let same : entries_of (course.entries ++ entry ∷ []) other ≡ entries_of course.entries other + 0 =
            entries-of-more other ∙ ap (λ b. entries_of course.entries other + cond b 1 0) e in
            omega (arith, same, is.given other)

-- ---- legal journals

-- the turns of a run are those that were given
turns-of-run : (setup : Setup) (before : List Entry) (turns : List Turn) → map turn_of (run_after all_parts setup before turns) ≡ turns
unfolding run_after
turns-of-run setup before [] = refl
turns-of-run setup before (turn ∷ turns) = ap (λ ts. turn ∷ ts) (turns-of-run setup (before ++ entry_of all_parts setup before turn ∷ []) turns)

-- the entries of a course are a legal journal
pub course-legal : (session : Session) (course : Course) → IsCourse session course → IsLegal session.setup course.entries
course-legal session course is =
    let turns : List Turn = in_turn session.commands (callers_of course.entries) in
    is.journal ∙ ap (run_of session.setup) (sym (ap (map turn_of) is.journal ∙ turns-of-run session.setup [] turns))

-- ---- two lines

-- they are compared byte by byte
pub lines-differ : (differ : Bool) (xs ys : List ℕ) → differ ≡ not (pointwise nat_eq xs ys) → differ ≡ true → xs ≡ ys → ⊥
lines-differ differ xs ys is differs same =
    let equal : pointwise nat_eq xs ys ≡ true = (slice_eq-Decides Decides-eqb xs ys (pointwise nat_eq xs ys) refl).1 same in
    false≢true (sym (is ∙ ap not equal) ∙ differs)

pub lines-same : (differ : Bool) (xs ys : List ℕ) → differ ≡ not (pointwise nat_eq xs ys) → differ ≡ false → xs ≡ ys
lines-same differ xs ys is agrees = by (pointwise nat_eq xs ys) refl
  where
    by : (b : Bool) → pointwise nat_eq xs ys ≡ b → xs ≡ ys
    by true e = (slice_eq-Decides Decides-eqb xs ys (pointwise nat_eq xs ys) refl).0 e
    by false e = absurd (false≢true (sym agrees ∙ is ∙ ap not e))
