-- Each caller's commands stand in a journal once, in that caller's order.
use Rattle.std.proofs.Common.{◌≡◌, ◌∙◌, ℕ, suc, ◌+◌, ◌<◌, ◌≤◌, ◌==◌, Bool, true, false, cond, List, [], ◌∷◌, ◌++◌, All, drop, get_or, length, map, nat_eq, slice_get, take, Some, filter, inl, inr, refl, sym, ap, subst, arith, eq-eqb, eqb-true, drop-cons}
use Rattle.std.specs.List.{filter_map}
use Rattle.std.specs.Option.{option_and_then, option_map}
use Rattle.std.proofs.lemmas.Bool.{cases_lt, ne_eqb}
use Rattle.std.proofs.lemmas.List.{get_or_past}
use Rattle.std.proofs.Math.Seq.{take-length}
use Rattle.std.proofs.lemmas.List.Elements.{All-head, All-tail}
use Rattle.std.proofs.lemmas.List.Sums.{sum_by-append, sum_by-cons}
use Rattle.std.proofs.lemmas.Option.{slice_get-get_or}
use Rattle.market_model.specs.declared.command.Command.{Command}
use Rattle.market_model.specs.declared.entry.Entry.{Entry}
use Rattle.market_model.specs.declared.setup.Setup.{Setup}
use Rattle.market_model.specs.Market.{Turn, entry_of, in_turn, in_turn_after, run_after, turn_at, turn_of}
use Rattle.market_model.specs.Sweep.{all_parts}
use Rattle.market_text.specs.Commands.{commands_of}
use Rattle.market_text.specs.Session.{IsSession}
use Rattle.market_text.specs.declared.session.Session.{Session}
use Rattle.session_journal.specs.Journal.{journal_of_session}
use Rattle.session_journal.specs.Laws.{EachCommandOnce, commands_in}
use Rattle.session_journal.proofs.Turns.{turn_count}

-- ---- the turns of a journal

turns-of-run : (setup : Setup) (before : List Entry) (turns : List Turn) → map turn_of (run_after all_parts setup before turns) ≡ turns
unfolding run_after
turns-of-run setup before [] = refl
turns-of-run setup before (turn ∷ turns) =
    ap (λ ts. turn ∷ ts) (turns-of-run setup (before ++ entry_of all_parts setup before turn ∷ []) turns)

-- a caller's commands among turns
abbrev given_in : ℕ → List Turn → List Command
given_in caller turns = map (λ (turn : Turn). turn.command) (filter (λ (turn : Turn). turn.caller == caller) turns)

commands-of-turns : (caller : ℕ) (entries : List Entry) → commands_in caller entries ≡ given_in caller (map turn_of entries)
commands-of-turns caller [] = refl
commands-of-turns caller (entry ∷ entries) = by (nat_eq entry.caller caller) (commands-of-turns caller entries)
  where
    by : (b : Bool) → commands_in caller entries ≡ given_in caller (map turn_of entries)
        → map (λ (e : Entry). e.command) (cond b (entry ∷ filter (λ (e : Entry). e.caller == caller) entries) (filter (λ (e : Entry). e.caller == caller) entries))
        ≡ map (λ (t : Turn). t.command) (cond b (turn_of entry ∷ filter (λ (t : Turn). t.caller == caller) (map turn_of entries)) (filter (λ (t : Turn). t.caller == caller) (map turn_of entries)))
    by true same = ap (λ cs. entry.command ∷ cs) same
    by false same = same

-- ---- the turns in the order of the callers

-- one where a test holds
abbrev one_if : Bool → ℕ
one_if b = cond b 1 0

count-first : (turn caller : ℕ) (turns : List ℕ) → turn_count (turn ∷ turns) caller ≡ one_if (nat_eq turn caller) + turn_count turns caller
count-first turn caller turns = sum_by-cons (λ t. cond (nat_eq t caller) 1 0) turn turns

count-last : (past : List ℕ) (turn caller : ℕ) → turn_count (past ++ turn ∷ []) caller ≡ turn_count past caller + one_if (nat_eq turn caller)
count-last past turn caller =
    let parts = sum_by-append (λ t. cond (nat_eq t caller) 1 0) past (turn ∷ []) in
    let one = count-first turn caller [] in
    omega (arith, parts, one)

-- each caller has commands enough for its turns
abbrev AreEnough : List (List Command) → (past callers : List ℕ) → Type 0
AreEnough commands past callers = (caller : ℕ) → turn_count past caller + turn_count callers caller ≤ length (commands_of commands caller)

-- so whose turn is next has a command left
record IsTurn (commands : List (List Command)) (past : List ℕ) (turn : ℕ) : Type 0 where
  command : Command
  left : drop (turn_count past turn) (commands_of commands turn) ≡ command ∷ drop (suc (turn_count past turn)) (commands_of commands turn)
  is : turn_at commands turn (turn_count past turn) ≡ Some (record { caller = turn; command = command })

next-turn : (commands : List (List Command)) (past : List ℕ) (turn : ℕ) (callers : List ℕ) → turn < length commands → AreEnough commands past (turn ∷ callers)
    → IsTurn commands past turn
next-turn commands past turn callers known enough = by (commands_of commands turn) refl
  where
    own : List Command
    own = commands_of commands turn

    place : ℕ
    place = turn_count past turn

    within : place < length own
    within =
        let one : one_if (nat_eq turn turn) ≡ one_if true = ap one_if (eq-eqb turn turn refl) in
        omega (arith, enough turn, count-first turn turn callers, one)

    by : (xs : List Command) → own ≡ xs → IsTurn commands past turn
    by [] none = absurd (omega (arith, within, ap length none))
    by (first ∷ rest) some = record {
      command = get_or own place first;
      left = drop-cons own place first within;
      is = ap (λ o. option_map (λ given. record { caller = turn; command = given }) (option_and_then (λ mine. slice_get mine place) o))
          (slice_get-get_or commands turn [] known)
          ∙ ap (option_map (λ given. record { caller = turn; command = given })) (slice_get-get_or own place first within);
    }

still-enough : (commands : List (List Command)) (past : List ℕ) (turn : ℕ) (callers : List ℕ) → AreEnough commands past (turn ∷ callers)
    → AreEnough commands (past ++ turn ∷ []) callers
still-enough commands past turn callers enough caller = omega (arith, enough caller, count-first turn caller callers, count-last past turn caller)

-- the callers of the turns are those that were named
callers-in-turn : (commands : List (List Command)) (past callers : List ℕ) → All (λ turn. turn < length commands) callers → AreEnough commands past callers
    → map (λ (turn : Turn). turn.caller) (filter_map (λ turn. turn) (in_turn_after commands past callers)) ≡ callers
callers-in-turn commands past [] known enough = refl
callers-in-turn commands past (turn ∷ callers) known enough =
    let next = next-turn commands past turn callers (All-head (λ t. t < length commands) turn callers known) enough in
    ap (λ o. map (λ (t : Turn). t.caller) (filter_map (λ t. t) (o ∷ in_turn_after commands (past ++ turn ∷ []) callers))) next.is
    ∙ ap (λ cs. turn ∷ cs) (callers-in-turn commands (past ++ turn ∷ []) callers (All-tail (λ t. t < length commands) turn callers known)
    (still-enough commands past turn callers enough))

-- a caller's commands among the turns are its next ones
given-in-turn : (commands : List (List Command)) (past callers : List ℕ) → All (λ turn. turn < length commands) callers → AreEnough commands past callers → (caller : ℕ)
    → given_in caller (filter_map (λ turn. turn) (in_turn_after commands past callers))
    ≡ take (turn_count callers caller) (drop (turn_count past caller) (commands_of commands caller))
given-in-turn commands past [] known enough caller = refl
given-in-turn commands past (turn ∷ callers) known enough caller =
    ap (λ o. given_in caller (filter_map (λ t. t) (o ∷ in_turn_after commands (past ++ turn ∷ []) callers))) next.is
    ∙ by (nat_eq turn caller) refl
    (given-in-turn commands (past ++ turn ∷ []) callers (All-tail (λ t. t < length commands) turn callers known)
    (still-enough commands past turn callers enough) caller)
  where
    next : IsTurn commands past turn
    next = next-turn commands past turn callers (All-head (λ t. t < length commands) turn callers known) enough

    rest : List Turn
    rest = filter_map (λ t. t) (in_turn_after commands (past ++ turn ∷ []) callers)

    by : (b : Bool) → nat_eq turn caller ≡ b
        → given_in caller rest ≡ take (turn_count callers caller) (drop (turn_count (past ++ turn ∷ []) caller) (commands_of commands caller))
        → map (λ (t : Turn). t.command) (cond b ((record { caller = turn; command = next.command }) ∷ filter (λ (t : Turn). t.caller == caller) rest) (filter (λ (t : Turn). t.caller == caller) rest))
        ≡ take (turn_count (turn ∷ callers) caller) (drop (turn_count past caller) (commands_of commands caller))
    by true e later =
        let left : drop (turn_count past caller) (commands_of commands caller) ≡ next.command ∷ drop (suc (turn_count past caller)) (commands_of commands caller) =
        subst (λ c. drop (turn_count past c) (commands_of commands c) ≡ next.command ∷ drop (suc (turn_count past c)) (commands_of commands c)) (eqb-true turn caller e) next.left in
        let one : one_if (nat_eq turn caller) ≡ one_if true = ap one_if e in
        let more : turn_count (turn ∷ callers) caller ≡ suc (turn_count callers caller) = omega (arith, count-first turn caller callers, one) in
        let gone : turn_count (past ++ turn ∷ []) caller ≡ suc (turn_count past caller) = omega (arith, count-last past turn caller, one) in
        ap (λ cs. next.command ∷ cs) (later ∙ ap (λ n. take (turn_count callers caller) (drop n (commands_of commands caller))) gone)
        ∙ sym (ap (λ n. take n (drop (turn_count past caller) (commands_of commands caller))) more ∙ ap (take (suc (turn_count callers caller))) left)
    by false e later =
        let none : one_if (nat_eq turn caller) ≡ one_if false = ap one_if e in
        let same : turn_count callers caller ≡ turn_count (turn ∷ callers) caller = omega (arith, count-first turn caller callers, none) in
        let still : turn_count (past ++ turn ∷ []) caller ≡ turn_count past caller = omega (arith, count-last past turn caller, none) in
        later ∙ ap (λ n. take (turn_count callers caller) (drop n (commands_of commands caller))) still
        ∙ ap (λ n. take n (drop (turn_count past caller) (commands_of commands caller))) same

-- ---- the journal of a session

-- a caller that is not there has no turn
none-named : (count caller : ℕ) (turns : List ℕ) → All (λ turn. turn < count) turns → count ≤ caller → turn_count turns caller ≡ 0
none-named count caller [] known past = refl
none-named count caller (turn ∷ turns) known past =
    let below : turn < count = All-head (λ t. t < count) turn turns known in
    let none : one_if (nat_eq turn caller) ≡ one_if false = ap one_if (ne_eqb turn caller (λ e. omega (arith, e, below, past))) in
    omega (arith, count-first turn caller turns, none, none-named count caller turns (All-tail (λ t. t < count) turn turns known) past)

-- each caller has as many commands as turns
pub as-many : (session : Session) → IsSession session → (caller : ℕ) → length (commands_of session.commands caller) ≡ turn_count session.turns caller
as-many session is caller = elim (cases_lt caller (length session.commands)) [
  | inl known ↦ is.counted caller known
  | inr past ↦ ap length (get_or_past session.commands caller [] past)
      ∙ sym (none-named (length session.setup.callers) caller session.turns is.known (omega (arith, is.matched, past)))
]

pub each-command-once : EachCommandOnce
each-command-once session is = (
  callers (journal_of_session session) ∙ ap (map (λ (t : Turn). t.caller)) run ∙ callers-in-turn session.commands [] session.turns known enough,
  λ caller.
      commands-of-turns caller (journal_of_session session) ∙ ap (given_in caller) run
      ∙ given-in-turn session.commands [] session.turns known enough caller
      ∙ ap (λ n. take n (commands_of session.commands caller)) (sym (as-many session is caller)) ∙ take-length (commands_of session.commands caller),
)
  where
    run : map turn_of (journal_of_session session) ≡ in_turn session.commands session.turns
    run = turns-of-run session.setup [] (in_turn session.commands session.turns)

    known : All (λ turn. turn < length session.commands) session.turns
    known = subst (λ n. All (λ turn. turn < n) session.turns) (sym is.matched) is.known

    enough : AreEnough session.commands [] session.turns
    enough caller = omega (arith, as-many session is caller)

    callers : (entries : List Entry) → map (λ (e : Entry). e.caller) entries ≡ map (λ (t : Turn). t.caller) (map turn_of entries)
    callers [] = refl
    callers (entry ∷ entries) = ap (λ cs. entry.caller ∷ cs) (callers entries)
