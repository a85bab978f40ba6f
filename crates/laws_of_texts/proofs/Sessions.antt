-- A text of a session stands for one that keeps all that a session promises.
use Rattle.std.proofs.Common.{◌≡◌, ◌∙◌, inl, inr, ◌+◌, ◌<◌, ◌≤◌, ◌==◌, ◌&&◌, ◌++◌, ℕ, zero, suc, Bool, true, false, cond, List, [], ◌∷◌, All, count_by, filter, flat_map, get_or, length, map, nat_eq, nat_lt, replicate, Option, None, Some, refl, sym, ap, subst, arith}
use Rattle.std.specs.Cmp.Lexicographic.{pointwise, same_text}
use Rattle.std.specs.List.{AllPairs, Contains}
use Rattle.std.proofs.lemmas.Bool.{cases_lt, eq-eqb, ne_eqb}
use Rattle.std.specs.Prelude.{unwrap_or}
use Rattle.std.proofs.lemmas.List.{get_or-map, length-append, length-map, length-replicate}
use Rattle.std.proofs.lemmas.List.Elements.{All-append, All-cons, All-head, All-map, All-nil, All-replicate, All-tail}
use Rattle.std.proofs.lemmas.List.Sums.{sum_by-append, sum_by-cons}
use Rattle.contract_calendar.specs.Day.{DeliveryDay, day_of, hours_of_day, is_last_sunday}
use Rattle.jiff_core.specs.declared.civil.date.Date.{Date}
use Rattle.zone_graph.specs.Name.{IsName}
use Rattle.market_model.specs.declared.command.Command.{Command}
use Rattle.market_model.specs.declared.setup.Caller.{Caller}
use Rattle.market_spelling.specs.Chain.{◌>>=◌}
use Rattle.market_spelling.specs.Dates.{date_of}
use Rattle.command_lines.specs.Names.{place_of}
use Rattle.market_text.specs.declared.session.Session.{Session}
use Rattle.market_text.specs.Session.{IsSession}
use Rattle.market_text.specs.Steps.{day_of_word}
use Rattle.laws_of_texts.specs.Contents.{CallerLine, CommandLine, Contents, IsAllowed, all_commands, caller_names, caller_number, caller_of_line, given_by, is_line_of, numbers_of, session_of_contents, turns_of}
use Rattle.laws_of_texts.specs.Laws.{TextsAreSessions}
use Rattle.laws_of_texts.proofs.Grids.{number_within}
use Rattle.laws_of_texts.proofs.Places.{name_at_place, place_of_declared, same_passes}
use Rattle.laws_of_texts.proofs.Texts.{accepted-in-grammar}

-- ---- the hours of a day

hours-by : (sunday march october : Bool) → (23 ≤ cond (sunday && march) 23 (cond (sunday && october) 25 24)) × (cond (sunday && march) 23 (cond (sunday && october) 25 24) ≤ 25)
hours-by true true october = (omega arith, omega arith)
hours-by true false true = (omega arith, omega arith)
hours-by true false false = (omega arith, omega arith)
hours-by false march october = (omega arith, omega arith)

day-hours : (date : Date) → (23 ≤ hours_of_day date) × (hours_of_day date ≤ 25)
unfolding hours_of_day
day-hours date = hours-by (is_last_sunday date) (date.month == 3) (date.month == 10)

word-hours : (word : List ℕ) (day : DeliveryDay) → day_of_word word ≡ Some day → (23 ≤ day.hours) × (day.hours ≤ 25)
unfolding day_of_word
word-hours word day is = go (date_of word) is
  where
    go : (o : Option Date) → (o >>= (λ date. Some (day_of date))) ≡ Some day → (23 ≤ day.hours) × (day.hours ≤ 25)
    go None e = cc
    go (Some date) e = let same : day_of date ≡ day = cc in subst (λ d. (23 ≤ d.hours) × (d.hours ≤ 25)) same (day-hours date)

-- ---- whose turn it is

-- the names of callers, no two alike
abbrev Differ : List (List ℕ) → Type 0
Differ names = AllPairs (λ one other. ¬ (one ≡ other)) names

-- a name stands at one place
one-place : (names : List (List ℕ)) → Differ names → (i k : ℕ) → i < length names → k < length names → get_or names i [] ≡ get_or names k [] → i ≡ k
one-place names differ i k first second same = elim (cases_lt i k) [
  | inl less ↦ absurd (differ i k [] less second same)
  | inr most ↦ elim (cases_lt k i) [
    | inl less ↦ absurd (differ k i [] less first (sym same))
    | inr least ↦ omega arith
  ]
]

module _ (names : List (List ℕ)) (differ : Differ names) where
  number-at : (name : List ℕ) (place : ℕ) → place_of names name ≡ Some place → caller_number names name ≡ place
  number-at name place is = ap (λ o. unwrap_or o (length names)) is

  -- the number of a declared caller is one of the callers'
  number-known : (name : List ℕ) → Contains names name → caller_number names name < length names
  number-known name declared =
      let found = place_of_declared names name declared in
      let within = (name_at_place names name found.0 found.1).0 in
      let is = number-at name found.0 found.1 in
      omega (arith, within, is)

  -- a line is of the caller whose number it has
  number-tells : (k : ℕ) → k < length names → (line : CommandLine) → Contains names line.caller
      → nat_eq (caller_number names line.caller) k ≡ is_line_of (get_or names k []) line
  number-tells k known line declared = by (pointwise nat_eq (get_or names k []) line.caller) refl
    where
      found : (place : ℕ) × (place_of names line.caller ≡ Some place)
      found = place_of_declared names line.caller declared

      at : (found.0 < length names) × (get_or names found.0 [] ≡ line.caller)
      at = name_at_place names line.caller found.0 found.1

      by : (b : Bool) → pointwise nat_eq (get_or names k []) line.caller ≡ b → nat_eq (caller_number names line.caller) k ≡ b
      by true is =
          let same : get_or names k [] ≡ line.caller = same_text (get_or names k []) line.caller (sym is) in
          let place : found.0 ≡ k = one-place names differ found.0 k at.0 known (at.1 ∙ sym same) in
          eq-eqb (caller_number names line.caller) k (number-at line.caller found.0 found.1 ∙ place)
      by false is = ne_eqb (caller_number names line.caller) k (λ same.
          let place : found.0 ≡ k = sym (number-at line.caller found.0 found.1) ∙ same in
          let name : get_or names k [] ≡ line.caller = ap (λ n. get_or names n []) (sym place) ∙ at.1 in
          let passes : pointwise nat_eq (get_or names k []) line.caller ≡ true = ap (pointwise nat_eq (get_or names k [])) (sym name) ∙ same_passes (get_or names k []) in
          let told : true ≡ false = sym passes ∙ is in cc)

-- ---- how many commands

-- turns of one caller
count-replicate : (n number k : ℕ) → count_by (λ turn. nat_eq turn k) (replicate n number) ≡ cond (nat_eq number k) n 0
count-replicate zero number k = by (nat_eq number k)
  where
    by : (b : Bool) → zero ≡ cond b zero zero
    by true = refl
    by false = refl
count-replicate (suc n) number k =
    let first = sum_by-cons (λ turn. cond (nat_eq turn k) 1 0) number (replicate n number) in
    first ∙ ap (λ m. cond (nat_eq number k) 1 0 + m) (count-replicate n number k) ∙ by (nat_eq number k)
  where
    by : (b : Bool) → cond b 1 0 + cond b n 0 ≡ cond b (suc n) 0
    by true = omega arith
    by false = omega arith

-- the lines are of declared callers
abbrev AreDeclaredLines : List (List ℕ) → List CommandLine → Type 0
AreDeclaredLines names lines = All (λ (line : CommandLine). Contains names line.caller) lines

module _ (names : List (List ℕ)) (differ : Differ names) where
  -- each caller has as many commands as turns
  counts-alike : (k : ℕ) → k < length names → (lines : List CommandLine) → AreDeclaredLines names lines
      → length (given_by lines (get_or names k [])) ≡ count_by (λ turn. nat_eq turn k) (turns_of names lines)
  unfolding given_by turns_of
  counts-alike k known [] declared = refl
  counts-alike k known (line ∷ lines) declared =
      let rest = counts-alike k known lines (All-tail (λ (l : CommandLine). Contains names l.caller) line lines declared) in
      let own = All-head (λ (l : CommandLine). Contains names l.caller) line lines declared in
      let turns = turns_of names lines in
      let here = replicate (length line.commands) (caller_number names line.caller) in
      given (is_line_of (get_or names k []) line)
      ∙ ap (λ n. cond (is_line_of (get_or names k []) line) (length line.commands) 0 + n) rest
      ∙ ap (λ b. cond b (length line.commands) 0 + count_by (λ turn. nat_eq turn k) turns) (sym (number-tells names differ k known line own))
      ∙ ap (λ n. n + count_by (λ turn. nat_eq turn k) turns) (sym (count-replicate (length line.commands) (caller_number names line.caller) k))
      ∙ sym (sum_by-append (λ turn. cond (nat_eq turn k) 1 0) here turns)
    where
      others : List CommandLine
      others = filter (is_line_of (get_or names k [])) lines

      given : (b : Bool) → length (all_commands (cond b (line ∷ others) others)) ≡ cond b (length line.commands) 0 + length (all_commands others)
      given true = length-append line.commands (all_commands others)
      given false = omega arith

  turns-known : (lines : List CommandLine) → AreDeclaredLines names lines → All (λ turn. turn < length names) (turns_of names lines)
  unfolding turns_of
  turns-known [] declared = All-nil (λ turn. turn < length names)
  turns-known (line ∷ lines) declared =
      All-append (λ turn. turn < length names) (replicate (length line.commands) (caller_number names line.caller)) (turns_of names lines)
      (All-replicate (λ turn. turn < length names) (length line.commands) (caller_number names line.caller)
      (number-known names differ line.caller (All-head (λ (l : CommandLine). Contains names l.caller) line lines declared)))
      (turns-known lines (All-tail (λ (l : CommandLine). Contains names l.caller) line lines declared))

-- there are as many turns as commands
turns-many : (names : List (List ℕ)) (lines : List CommandLine) → length (turns_of names lines) ≡ length (all_commands lines)
unfolding turns_of
turns-many names [] = refl
turns-many names (line ∷ lines) =
    length-append (replicate (length line.commands) (caller_number names line.caller)) (turns_of names lines)
    ∙ ap (λ n. n + length (turns_of names lines)) (length-replicate (length line.commands) (caller_number names line.caller))
    ∙ ap (λ n. length line.commands + n) (turns-many names lines)
    ∙ sym (length-append line.commands (all_commands lines))

-- each caller has room for its commands
rooms-alike : (lines : List CommandLine) (callers : List CallerLine)
    → map (λ (caller : Caller). caller.room) (map (caller_of_line lines) callers) ≡ map length (map (given_by lines) (caller_names callers))
rooms-alike lines [] = refl
rooms-alike lines (caller ∷ callers) = ap (λ rooms. length (given_by lines caller.name) ∷ rooms) (rooms-alike lines callers)

-- the callers have names
callers-named : (lines : List CommandLine) (callers : List CallerLine) → All IsName (caller_names callers) → All (λ (caller : Caller). IsName caller.name) (map (caller_of_line lines) callers)
callers-named lines [] named = All-nil (λ (caller : Caller). IsName caller.name)
callers-named lines (caller ∷ callers) named =
    All-cons (λ (c : Caller). IsName c.name) (caller_of_line lines caller) (map (caller_of_line lines) callers)
    (All-head IsName caller.name (caller_names callers) named)
    (callers-named lines callers (All-tail IsName caller.name (caller_names callers) named))

-- ---- the session

module _ (contents : Contents) (allowed : IsAllowed contents) where
  declared : AreDeclaredLines (caller_names contents.callers) contents.commands
  declared k d lt = (allowed.commands k d lt).declared

  contents-session : IsSession (session_of_contents contents)
  unfolding session_of_contents
  contents-session =
      let hours = word-hours contents.date contents.day allowed.day in
      let borders = length-map contents.borders (numbers_of contents.zones) in
      let callers = length-map contents.callers (caller_of_line contents.commands) in
      let own_names = length-map contents.callers (λ (caller : CallerLine). caller.name) in
      let given = length-map (caller_names contents.callers) (given_by contents.commands) in
      let turns = turns-many (caller_names contents.callers) contents.commands in
      record {
        least_hours = hours.0;
        most_hours = hours.1;
        some_zone = allowed.some_zone;
        few_zones = allowed.few_zones;
        few_borders = omega (arith, borders, allowed.few_borders);
        few_callers = omega (arith, callers, allowed.few_callers);
        named = record {
          zones = allowed.zone_names;
          borders = All-map (λ (ends : ℕ × ℕ). (ends.0 < length contents.zones) × (ends.1 < length contents.zones)) (numbers_of contents.zones) contents.borders
              (λ k d lt. let joined = allowed.zones_joined k d lt in
              (number_within contents.zones (get_or contents.borders k d).0 joined.0, number_within contents.zones (get_or contents.borders k d).1 joined.1));
          callers = callers-named contents.commands contents.callers allowed.names_of_callers;
        };
        matched = given ∙ own_names ∙ sym callers;
        known = subst (λ n. All (λ turn. turn < n) (turns_of (caller_names contents.callers) contents.commands)) (own_names ∙ sym callers)
            (turns-known (caller_names contents.callers) allowed.callers_differ contents.commands declared);
        counted = λ caller within.
            let known : caller < length (caller_names contents.callers) = omega (arith, within, given) in
            ap length (get_or-map (given_by contents.commands) (caller_names contents.callers) caller [] [] known)
            ∙ counts-alike (caller_names contents.callers) allowed.callers_differ caller known contents.commands declared;
        rooms = rooms-alike contents.commands contents.callers;
        few = omega (arith, turns, allowed.few_commands);
      }

pub texts-are-sessions : TextsAreSessions
texts-are-sessions bytes session ok =
    let text = accepted-in-grammar bytes session ok in
    subst (λ (read : Session). IsSession read) (sym text.stands_for) (contents-session text.contents text.allowed)
