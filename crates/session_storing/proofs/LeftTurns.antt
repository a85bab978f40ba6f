-- Which turns are left once callers have given commands.
use Rattle.std.proofs.Common.{◌≡◌, ◌∙◌, inl, inr, ℕ, ◌+◌, ◌-◌, ◌<◌, ◌≤◌, All, Bool, true, false, cond, nat_lt, List, [], ◌∷◌, ◌++◌, append_assoc, drop, eqb-true, get_or, length, nat_eq, take, true≢false, refl, sym, ap, subst, arith}
use Rattle.std.proofs.lemmas.Bool.{cases_lt, lt-ltb, ltb-true}
use Rattle.std.proofs.lemmas.List.{drop_more, get_or-map, take_more}
use Rattle.std.proofs.lemmas.List.Elements.{All-cons, All-head, All-nil, All-tail}
use Rattle.std.proofs.lemmas.List.Sums.{sum_by-append, sum_by-cons}
use Rattle.market_model.specs.declared.entry.Entry.{Entry}
use Rattle.market_text.specs.Commands.{commands_of}
use Rattle.session_journal.proofs.Journals.{count-callers}
use Rattle.journal_audit.specs.Course.{callers_of, entries_of}
use Rattle.session_storing.specs.Playing.{HasCommandsFor, PlayState, turns_of}
use Rattle.session_storing.specs.Recovering.{left_behind, turns_left, unless_given}

-- ---- one turn after the other

module _ (given turns : List ℕ) (i : ℕ) (within : i < length turns) where
  abbrev turn : ℕ
  turn = get_or turns i 0

  abbrev is_given : Bool
  is_given = nat_lt (turns_of (take i turns) turn) (turns_of given turn)

  left-step : left_behind (take i turns) given (drop i turns) ≡ unless_given is_given turn (left_behind (take (i + 1) turns) given (drop (i + 1) turns))
  left-step =
      ap (left_behind (take i turns) given) (drop_more turns i 0 within)
      ∙ ap (λ past. unless_given is_given turn (left_behind past given (drop (i + 1) turns))) (sym (take_more turns i 0 within))

  -- a turn that was given is passed over
  pub left-given : (before all : List ℕ) → before ++ left_behind (take i turns) given (drop i turns) ≡ all → is_given ≡ true
      → before ++ left_behind (take (i + 1) turns) given (drop (i + 1) turns) ≡ all
  left-given before all so_far test =
      ap (λ b. before ++ unless_given b turn (left_behind (take (i + 1) turns) given (drop (i + 1) turns))) (sym test)
      ∙ ap (λ rest. before ++ rest) (sym left-step) ∙ so_far

  -- and one that was not is left
  pub left-more : (before all : List ℕ) → before ++ left_behind (take i turns) given (drop i turns) ≡ all → is_given ≡ false
      → (before ++ turn ∷ []) ++ left_behind (take (i + 1) turns) given (drop (i + 1) turns) ≡ all
  left-more before all so_far test =
      append_assoc before (turn ∷ []) (left_behind (take (i + 1) turns) given (drop (i + 1) turns))
      ∙ ap (λ b. before ++ unless_given b turn (left_behind (take (i + 1) turns) given (drop (i + 1) turns))) (sym test)
      ∙ ap (λ rest. before ++ rest) (sym left-step) ∙ so_far

-- ---- how many are left

-- a number that is not less
pub no-less : (a b : ℕ) → nat_lt a b ≡ false → b ≤ a
no-less a b test = elim (cases_lt a b) [
  | inl less ↦ absurd (true≢false (sym (lt-ltb a b less) ∙ test))
  | inr most ↦ most
]

-- one where a test holds
abbrev one_if : Bool → ℕ
one_if b = cond b 1 0

count-first : (turn : ℕ) (turns : List ℕ) (caller : ℕ) → turns_of (turn ∷ turns) caller ≡ one_if (nat_eq turn caller) + turns_of turns caller
count-first turn turns caller = sum_by-cons (λ t. cond (nat_eq t caller) 1 0) turn turns

count-last : (past : List ℕ) (turn caller : ℕ) → turns_of (past ++ turn ∷ []) caller ≡ turns_of past caller + one_if (nat_eq turn caller)
count-last past turn caller =
    let parts = sum_by-append (λ t. cond (nat_eq t caller) 1 0) past (turn ∷ []) in
    let last = count-first turn [] caller in
    omega (arith, parts, last)

pub left-count : (past given turns : List ℕ) (caller : ℕ) → turns_of (left_behind past given turns) caller ≡ turns_of turns caller - (turns_of given caller - turns_of past caller)
left-count past given [] caller = omega arith
left-count past given (turn ∷ turns) caller =
    by (left-count (past ++ turn ∷ []) given turns caller) (nat_lt (turns_of past turn) (turns_of given turn)) refl (nat_eq turn caller) refl
  where
    rest : List ℕ
    rest = left_behind (past ++ turn ∷ []) given turns

    by : turns_of rest caller ≡ turns_of turns caller - (turns_of given caller - turns_of (past ++ turn ∷ []) caller)
        → (b : Bool) → nat_lt (turns_of past turn) (turns_of given turn) ≡ b → (own : Bool) → nat_eq turn caller ≡ own
        → turns_of (unless_given b turn rest) caller ≡ turns_of (turn ∷ turns) caller - (turns_of given caller - turns_of past caller)
    by later true e true same =
        let so : turns_of past caller < turns_of given caller =
        subst (λ c. turns_of past c < turns_of given c) (eqb-true turn caller same) (ltb-true (turns_of past turn) (turns_of given turn) e) in
        let one = ap one_if same in
        omega (arith, later, count-first turn turns caller, count-last past turn caller, so, one)
    by later true e false other =
        let none = ap one_if other in
        omega (arith, later, count-first turn turns caller, count-last past turn caller, none)
    by later false e true same =
        let so : turns_of given caller ≤ turns_of past caller =
        subst (λ c. turns_of given c ≤ turns_of past c) (eqb-true turn caller same) (no-less (turns_of past turn) (turns_of given turn) e) in
        let one = ap one_if same in
        omega (arith, later, count-first turn turns caller, count-first turn rest caller, count-last past turn caller, so, one)
    by later false e false other =
        let none = ap one_if other in
        omega (arith, later, count-first turn turns caller, count-first turn rest caller, count-last past turn caller, none)

-- what holds of all turns holds of those that are left
left-each : (P : ℕ → Type 0) (past given turns : List ℕ) → All P turns → All P (left_behind past given turns)
left-each P past given [] all = All-nil P
left-each P past given (turn ∷ turns) all =
    by (left-each P (past ++ turn ∷ []) given turns (All-tail P turn turns all)) (nat_lt (turns_of past turn) (turns_of given turn))
  where
    by : All P (left_behind (past ++ turn ∷ []) given turns) → (b : Bool) → All P (unless_given b turn (left_behind (past ++ turn ∷ []) given turns))
    by later true = later
    by later false = All-cons P turn (left_behind (past ++ turn ∷ []) given turns) (All-head P turn turns all) later

-- each caller has commands enough for what is left
pub left-commands : (state : PlayState) (turns : List ℕ) → All (λ turn. turn < length state.setup.callers) turns
    → ((caller : ℕ) → turns_of turns caller ≤ entries_of state.entries caller + length (commands_of state.waiting caller))
    → HasCommandsFor state (turns_left (callers_of state.entries) turns)
left-commands state turns known counted = record {
  known = left-each (λ turn. turn < length state.setup.callers) [] (callers_of state.entries) turns known;
  enough = λ caller. omega (arith, left-count [] (callers_of state.entries) turns caller, count-callers state.entries caller, counted caller);
}

-- the caller of an entry
pub caller-at : (entries : List Entry) (i : ℕ) (entry : Entry) → entry ≡ get_or entries i entry → i < length entries → get_or (callers_of entries) i 0 ≡ entry.caller
caller-at entries i entry is within = get_or-map (λ (e : Entry). e.caller) entries i entry 0 within ∙ sym (ap (λ (e : Entry). e.caller) is)
