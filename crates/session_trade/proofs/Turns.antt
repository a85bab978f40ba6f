-- A legal journal with each caller's commands in order is the session's, with its callers in the journal's order.
use Rattle.std.proofs.Common.{◌≡◌, ◌∙◌, inl, inr, ℕ, zero, suc, ◌+◌, ◌<◌, ◌≤◌, ◌==◌, All, Bool, true, false, cond, List, [], ◌∷◌, ◌++◌, drop, filter, length, map, nat_eq, slice_get, Some, refl, sym, ap, subst, arith, eq-eqb, eqb-true}
use Rattle.std.specs.List.{filter_map}
use Rattle.std.specs.Option.{option_and_then, option_map}
use Rattle.std.proofs.lemmas.Bool.{cases_lt, ne_eqb}
use Rattle.std.proofs.lemmas.List.{get_or_past, length-map}
use Rattle.std.proofs.lemmas.List.Elements.{All-cons, All-nil}
use Rattle.std.proofs.lemmas.List.Sums.{length-filter, sum_by-append, sum_by-cons}
use Rattle.std.proofs.lemmas.Option.{slice_get-get_or}
use Rattle.zone_graph.specs.Route.{IsIn}
use Rattle.market_model.specs.declared.command.Command.{Command}
use Rattle.market_model.specs.declared.entry.Entry.{Entry}
use Rattle.market_model.specs.Market.{in_turn_after, run_of, turn_at, turn_of}
use Rattle.market_text.specs.declared.session.Session.{Session}
use Rattle.market_text.specs.Commands.{commands_of}
use Rattle.market_text.specs.Session.{IsSession}
use Rattle.trade_journal.specs.Journals.{IsJournal}
use Rattle.session_journal.specs.Laws.{commands_in}
use Rattle.session_journal.proofs.Journals.{count-callers}
use Rattle.session_journal.proofs.Turns.{turn_count}
use Rattle.session_journal.specs.Turns.{IsTraded}

-- what is left of a list that begins with an item
drop-suc : {X : Type 0} (xs : List X) (k : ℕ) (x : X) (rest : List X) → drop k xs ≡ x ∷ rest → (drop (suc k) xs ≡ rest) × (slice_get xs k ≡ Some x)
drop-suc [] zero x rest is = cc
drop-suc [] (suc k) x rest is = cc
drop-suc (y ∷ xs) zero x rest is = (cc, cc)
drop-suc (y ∷ xs) (suc k) x rest is = drop-suc xs k x rest is

-- one where a test holds
abbrev one_if : Bool → ℕ
one_if b = cond b 1 0

count-last : (past : List ℕ) (turn caller : ℕ) → turn_count (past ++ turn ∷ []) caller ≡ turn_count past caller + one_if (nat_eq turn caller)
count-last past turn caller =
    let parts = sum_by-append (λ t. cond (nat_eq t caller) 1 0) past (turn ∷ []) in
    let one = sum_by-cons (λ t. cond (nat_eq t caller) 1 0) turn [] in
    omega (arith, parts, one)

-- the entries of a caller among entries, by whether the first is its own
abbrev by_first : Bool → Entry → (caller : ℕ) → List Entry → List Command
by_first b entry caller entries =
    map (λ (e : Entry). e.command) (cond b (entry ∷ filter (λ (e : Entry). e.caller == caller) entries) (filter (λ (e : Entry). e.caller == caller) entries))

module _ (commands : List (List Command)) (entry : Entry) (entries : List Entry) (past : List ℕ)
    (own : (caller : ℕ) → commands_in caller (entry ∷ entries) ≡ drop (turn_count past caller) (commands_of commands caller)) where
  its-own : drop (turn_count past entry.caller) (commands_of commands entry.caller) ≡ entry.command ∷ commands_in entry.caller entries
  its-own = sym (own entry.caller) ∙ ap (λ b. by_first b entry entry.caller entries) (eq-eqb entry.caller entry.caller refl)

  its-next : (drop (suc (turn_count past entry.caller)) (commands_of commands entry.caller) ≡ commands_in entry.caller entries)
      × (slice_get (commands_of commands entry.caller) (turn_count past entry.caller) ≡ Some entry.command)
  its-next = drop-suc (commands_of commands entry.caller) (turn_count past entry.caller) entry.command (commands_in entry.caller entries) its-own

  -- the entry's turn is its caller's next
  turn-is : entry.caller < length commands → turn_at commands entry.caller (turn_count past entry.caller) ≡ Some (turn_of entry)
  turn-is known =
      ap (λ o. option_map (λ (c : Command). record { caller = entry.caller; command = c }) (option_and_then (λ mine. slice_get mine (turn_count past entry.caller)) o))
      (slice_get-get_or commands entry.caller [] known)
      ∙ ap (option_map (λ (c : Command). record { caller = entry.caller; command = c })) its-next.1

  -- and what follows has what comes behind it
  later-own : (caller : ℕ) → commands_in caller entries ≡ drop (turn_count (past ++ entry.caller ∷ []) caller) (commands_of commands caller)
  later-own caller = by (nat_eq entry.caller caller) refl
    where
      by : (b : Bool) → nat_eq entry.caller caller ≡ b → commands_in caller entries ≡ drop (turn_count (past ++ entry.caller ∷ []) caller) (commands_of commands caller)
      by true e =
          let same : entry.caller ≡ caller = eqb-true entry.caller caller e in
          subst (λ c. commands_in c entries ≡ drop (turn_count (past ++ entry.caller ∷ []) c) (commands_of commands c)) same
          (let last : turn_count (past ++ entry.caller ∷ []) entry.caller ≡ turn_count past entry.caller + one_if (nat_eq entry.caller entry.caller) = count-last past entry.caller entry.caller in
          let one : one_if (nat_eq entry.caller entry.caller) ≡ one_if true = ap one_if (eq-eqb entry.caller entry.caller refl) in
          let more : suc (turn_count past entry.caller) ≡ turn_count (past ++ entry.caller ∷ []) entry.caller = omega (arith, last, one) in
          sym its-next.0 ∙ ap (λ n. drop n (commands_of commands entry.caller)) more)
      by false e =
          let last : turn_count (past ++ entry.caller ∷ []) caller ≡ turn_count past caller + one_if (nat_eq entry.caller caller) = count-last past entry.caller caller in
          let none : one_if (nat_eq entry.caller caller) ≡ one_if false = ap one_if e in
          let same : turn_count past caller ≡ turn_count (past ++ entry.caller ∷ []) caller = omega (arith, last, none) in
          sym (ap (λ b. by_first b entry caller entries) e) ∙ own caller ∙ ap (λ n. drop n (commands_of commands caller)) same

-- so the turns of entries are those of their callers, each with its next command
pub turns-are : (commands : List (List Command)) (entries : List Entry) (past : List ℕ) → ((entry : Entry) → IsIn entry entries → entry.caller < length commands)
    → ((caller : ℕ) → commands_in caller entries ≡ drop (turn_count past caller) (commands_of commands caller))
    → filter_map (λ turn. turn) (in_turn_after commands past (map (λ (e : Entry). e.caller) entries)) ≡ map turn_of entries
turns-are commands [] past known own = refl
turns-are commands (entry ∷ entries) past known own =
    ap (λ o. filter_map (λ t. t) (o ∷ in_turn_after commands (past ++ entry.caller ∷ []) (map (λ (e : Entry). e.caller) entries)))
    (turn-is commands entry entries past own (known entry (inl refl)))
    ∙ ap (λ ts. turn_of entry ∷ ts)
    (turns-are commands entries (past ++ entry.caller ∷ []) (λ other i. known other (inr i)) (later-own commands entry entries past own))

-- who has no entry has no command there
none-of : (count caller : ℕ) (entries : List Entry) → ((entry : Entry) → IsIn entry entries → entry.caller < count) → count ≤ caller → commands_in caller entries ≡ []
none-of count caller [] known past = refl
none-of count caller (entry ∷ entries) known past =
    let below = known entry (inl refl) in
    ap (λ b. by_first b entry caller entries) (ne_eqb entry.caller caller (λ same. omega (arith, same, below, past)))
    ∙ none-of count caller entries (λ other i. known other (inr i)) past

callers-known : (count : ℕ) (entries : List Entry) → ((entry : Entry) → IsIn entry entries → entry.caller < count)
    → All (λ turn. turn < count) (map (λ (e : Entry). e.caller) entries)
callers-known count [] known = All-nil (λ turn. turn < count)
callers-known count (entry ∷ entries) known =
    All-cons (λ turn. turn < count) entry.caller (map (λ (e : Entry). e.caller) entries) (known entry (inl refl)) (callers-known count entries (λ other i. known other (inr i)))

module _ (session : Session) (is : IsSession session) (entries : List Entry) (journal : IsJournal (record { setup = session.setup; entries = entries }))
    (own : (caller : ℕ) → caller < length session.commands → commands_in caller entries ≡ commands_of session.commands caller) where
  abbrev turns : List ℕ
  turns = map (λ (e : Entry). e.caller) entries

  known : (entry : Entry) → IsIn entry entries → entry.caller < length session.commands
  known entry i = let below = journal.callers entry i in let matched = is.matched in omega (arith, below, matched)

  all-own : (caller : ℕ) → commands_in caller entries ≡ commands_of session.commands caller
  all-own caller = elim (cases_lt caller (length session.commands)) [
    | inl below ↦ own caller below
    | inr past ↦ none-of (length session.commands) caller entries known past ∙ sym (get_or_past session.commands caller [] past)
  ]

  counted : (caller : ℕ) → length (commands_of session.commands caller) ≡ turn_count turns caller
  counted caller =
      ap length (sym (all-own caller)) ∙ length-map (filter (λ (e : Entry). e.caller == caller) entries) (λ (e : Entry). e.command)
      ∙ length-filter (λ (e : Entry). e.caller == caller) entries ∙ count-callers entries caller

  pub traded-is : IsTraded session entries
  traded-is = record {
    turns = turns;
    are = record { known = callers-known (length session.setup.callers) entries journal.callers; counted = λ caller below. counted caller };
    journal = journal.legal ∙ ap (run_of session.setup) (sym (turns-are session.commands entries [] known all-own));
  }
