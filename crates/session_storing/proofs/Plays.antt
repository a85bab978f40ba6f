-- A session that is played, command by command.
use Rattle.std.proofs.Common.{◌≡◌, ◌∙◌, ℕ, zero, suc, ◌+◌, ◌<◌, ◌≤◌, All, Bool, true, false, cond, List, [], ◌∷◌, ◌++◌, drop, add-one, eq-eqb, eqb-true, get_or, get_or-set_other, length, map, nat_eq, slice_get, Some, refl, sym, ap, subst, arith}
use Rattle.std.specs.Option.{option_map}
use Rattle.std.specs.Prelude.{unwrap_or}
use Rattle.std.proofs.Math.ListN.{get_or-map, length-set}
use Rattle.std.proofs.lemmas.Bool.{eqb-false}
use Rattle.std.proofs.lemmas.List.{map-append}
use Rattle.std.proofs.lemmas.List.Elements.{All-nil, All-push}
use Rattle.std.proofs.lemmas.List.Sums.{sum_by-append, sum_by-cons}
use Rattle.market_model.specs.declared.command.Command.{Command}
use Rattle.market_model.specs.declared.entry.Entry.{Entry}
use Rattle.market_model.specs.declared.setup.Caller.{Caller}
use Rattle.market_model.specs.History.{journal_events}
use Rattle.market_model.specs.Market.{entry_of, in_turn, run_after, run_of}
use Rattle.market_model.specs.Naming.{IsEntryIn}
use Rattle.market_model.specs.Sweep.{all_parts}
use Rattle.market_model.specs.WellFormed.{IsHistory, IsMarketSetup}
use Rattle.laws_of_market.proofs.Journals.{run-history}
use Rattle.laws_of_market.proofs.ReplyNames.{reply-names}
use Rattle.market_text.specs.Commands.{commands_of}
use Rattle.market_text.specs.Session.{IsSession}
use Rattle.market_text.specs.declared.session.Session.{Session}
use Rattle.trade_journal.specs.Journals.{made_by, room_of_caller}
use Rattle.journal_audit.specs.Course.{callers_of, entries_of, next_entry}
use Rattle.journal_audit.proofs.NextEntries.{command_at, journal-more, next-some}
use Rattle.session_storing.specs.Playing.{IsAfterNext, IsPlayedOn, IsPlaying, PlayState}

-- before any command
pub begins-playing : (session : Session) (state : PlayState) → IsSession session → IsMarketSetup session.setup → state ≡ record { setup = session.setup; waiting = session.commands; entries = [] } → IsPlaying session state
unfolding run_after
begins-playing session state is_session is_setup is = subst (IsPlaying session) (sym is) (record {
  is_session = is_session;
  is_setup = is_setup;
  setup = refl;
  journal = refl;
  given = λ caller. omega arith;
  matched = refl;
  waiting = λ caller. refl;
  named = All-nil (IsEntryIn session.setup);
})

-- what is left of a list that goes on with an item
drop-suc : {X : Type 0} (xs : List X) (k : ℕ) (x : X) (rest : List X) → drop k xs ≡ x ∷ rest → (drop (suc k) xs ≡ rest) × (slice_get xs k ≡ Some x)
drop-suc [] zero x rest is = cc
drop-suc [] (suc k) x rest is = cc
drop-suc (y ∷ xs) zero x rest is = (cc, cc)
drop-suc (y ∷ xs) (suc k) x rest is = drop-suc xs k x rest is

drop-next : {X : Type 0} (xs : List X) (k : ℕ) (x : X) (rest : List X) → drop k xs ≡ x ∷ rest → (drop (k + 1) xs ≡ rest) × (slice_get xs k ≡ Some x)
drop-next xs k x rest is = rw add-one (drop-suc xs k x rest is)

length-drop-is : {X : Type 0} (xs : List X) (k : ℕ) → k ≤ length xs → k + length (drop k xs) ≡ length xs
length-drop-is [] zero most = refl
length-drop-is [] (suc k) most = absurd (omega (arith, most))
length-drop-is (x ∷ xs) zero most = omega arith
length-drop-is (x ∷ xs) (suc k) most = let rest = length-drop-is xs k (omega (arith, most)) in omega (arith, rest)

-- one more entry of a caller
entries-of-more : (entries : List Entry) (entry : Entry) (other : ℕ) → entries_of (entries ++ entry ∷ []) other ≡ entries_of entries other + cond (nat_eq entry.caller other) 1 0
entries-of-more entries entry other =
    let test : Entry → ℕ = λ e. cond (nat_eq e.caller other) 1 0 in
    let parts = sum_by-append test entries (entry ∷ []) in
    let last = sum_by-cons test entry [] in
    omega (arith, parts, last)

-- the room of a caller of the setup
room-at : (callers : List Caller) (k : ℕ) → unwrap_or (option_map (λ (own : Caller). own.room) (slice_get callers k)) 0 ≡ get_or (map (λ (own : Caller). own.room) callers) k 0
room-at [] k = refl
room-at (own ∷ callers) zero = refl
room-at (own ∷ callers) (suc k) = room-at callers k

pub room-is : (session : Session) → IsSession session → (caller : ℕ) → room_of_caller session.setup caller ≡ length (commands_of session.commands caller)
room-is session is_session caller = room-at session.setup.callers caller ∙ ap (λ ns. get_or ns caller 0) is_session.rooms ∙ get_or-map length session.commands caller []

module _ (session : Session) (state : PlayState) (is : IsPlaying session state) where
  -- so many commands of a caller are waiting as it did not give
  pub waiting-count : (caller : ℕ) → entries_of state.entries caller + length (commands_of state.waiting caller) ≡ length (commands_of session.commands caller)
  waiting-count caller =
      let rest = length-drop-is (commands_of session.commands caller) (entries_of state.entries caller) (is.given caller) in
      let same = ap length (is.waiting caller) in
      omega (arith, rest, same)

  -- a caller that has a command left has room for its entry
  pub room-left : (caller : ℕ) → 0 < length (commands_of state.waiting caller) → made_by state.entries caller < room_of_caller state.setup caller
  room-left caller some =
      let room : room_of_caller state.setup caller ≡ length (commands_of session.commands caller) =
      ap (λ s. room_of_caller s caller) is.setup ∙ room-is session is.is_session caller in
      let count = waiting-count caller in
      omega (arith, room, count, some)

module _ (session : Session) (old : PlayState) (is : IsPlaying session old) (caller : ℕ) (known : caller < length session.setup.callers)
    (waits : caller < length old.waiting) (new : PlayState) (after : IsAfterNext old caller new) where
  abbrev own : List Command
  own = commands_of session.commands caller

  abbrev made : Entry
  made = entry_of all_parts session.setup old.entries (record { caller = caller; command = after.command })

  taken : (drop (entries_of old.entries caller + 1) own ≡ commands_of new.waiting caller) × (slice_get own (entries_of old.entries caller) ≡ Some after.command)
  taken = drop-next own (entries_of old.entries caller) after.command (commands_of new.waiting caller) (sym (is.waiting caller) ∙ after.next)

  given : command_at session.commands caller (entries_of old.entries caller) ≡ Some after.command
  given = taken.1

  next : next_entry session old.entries caller ≡ Some made
  next = next-some session old.entries caller after.command given

  grew : new.entries ≡ old.entries ++ made ∷ []
  grew = after.entries ∙ ap (λ s. old.entries ++ entry_of all_parts s old.entries (record { caller = caller; command = after.command }) ∷ []) is.setup

  history : IsHistory session.setup (journal_events old.entries)
  history =
      subst (IsHistory session.setup) (sym (ap journal_events is.journal))
      (run-history session.setup is.is_setup all_parts (in_turn session.commands (callers_of old.entries)))

  counts : (other : ℕ) → entries_of new.entries other ≡ entries_of old.entries other + cond (nat_eq caller other) 1 0
  counts other = ap (λ es. entries_of es other) grew ∙ entries-of-more old.entries made other

  waiting-on : (other : ℕ) (b : Bool) → nat_eq caller other ≡ b → commands_of new.waiting other ≡ drop (entries_of new.entries other) (commands_of session.commands other)
  waiting-on other true e =
      let same : caller ≡ other = eqb-true caller other e in
      let one : entries_of new.entries caller ≡ entries_of old.entries caller + 1 =
      counts caller ∙ ap (λ b. entries_of old.entries caller + cond b 1 0) (eq-eqb caller caller refl) in
      subst (λ c. commands_of new.waiting c ≡ drop (entries_of new.entries c) (commands_of session.commands c)) same
      (sym taken.0 ∙ ap (λ n. drop n own) (sym one))
  waiting-on other false e =
      let none : entries_of new.entries other ≡ entries_of old.entries other =
      counts other ∙ ap (λ b. entries_of old.entries other + cond b 1 0) e ∙ omega arith in
      ap (λ lists. commands_of lists other) after.others
      ∙ get_or-set_other old.waiting caller other (commands_of new.waiting caller) [] (λ same. eqb-false caller other e (sym same))
      ∙ is.waiting other ∙ ap (λ n. drop n (commands_of session.commands other)) (sym none)

  given-on : (other : ℕ) (b : Bool) → nat_eq caller other ≡ b → entries_of new.entries other ≤ length (commands_of session.commands other)
  given-on other true e =
      let same : caller ≡ other = eqb-true caller other e in
      let one : entries_of new.entries caller ≡ entries_of old.entries caller + 1 =
      counts caller ∙ ap (λ b. entries_of old.entries caller + cond b 1 0) (eq-eqb caller caller refl) in
      let count = waiting-count session old is caller in
      let some = ap length after.next in
      subst (λ c. entries_of new.entries c ≤ length (commands_of session.commands c)) same (omega (arith, one, count, some))
  given-on other false e =
      let none : entries_of new.entries other ≡ entries_of old.entries other =
      counts other ∙ ap (λ b. entries_of old.entries other + cond b 1 0) e ∙ omega arith in
      omega (arith, none, is.given other)

  pub plays-on : IsPlayedOn session old caller new
  plays-on = record {
    entry = made;
    whose = refl;
    next = next;
    grew = grew;
    playing = record {
      is_session = is.is_session;
      is_setup = is.is_setup;
      setup = after.setup ∙ is.setup;
      journal = grew ∙ journal-more session old.entries caller made is.journal next
          ∙ ap (λ callers. run_of session.setup (in_turn session.commands callers)) (sym (ap callers_of grew ∙ map-append (λ (e : Entry). e.caller) old.entries (made ∷ [])));
      given = λ other. given-on other (nat_eq caller other) refl;
      matched = ap length after.others ∙ length-set old.waiting caller (commands_of new.waiting caller) ∙ is.matched;
      waiting = λ other. waiting-on other (nat_eq caller other) refl;
      named = subst (All (IsEntryIn session.setup)) (sym grew)
          (All-push (IsEntryIn session.setup) old.entries made is.named (record { caller = known; reply = reply-names session.setup (journal_events old.entries) caller after.command is.is_setup history }));
    };
  }
