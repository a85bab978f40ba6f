-- Which steps the lines of a header make.
use Rattle.std.proofs.Common.{◌≡◌, ℕ, ◌<◌, ◌≤◌, ◌==◌, nat_lt, true, false, cond, List, [], ◌∷◌, ◌++◌, length, map, refl, sym, ap, ◌∙◌, arith, All, Option, Some, None, is_none, is_some, IsSome}
use Rattle.std.specs.Prelude.{option_map}
use Rattle.std.specs.List.{list_any}
use Rattle.std.proofs.lemmas.Bool.Decides.{nat_tests}
use Rattle.std.proofs.lemmas.List.{length-map, map_push}
use Rattle.zone_graph.specs.Name.{IsName}
use Rattle.contract_calendar.specs.Day.{DeliveryDay}
use Rattle.market_model.specs.declared.setup.Role.{Role}
use Rattle.market_model.specs.declared.setup.Role.TheVariants as role
use Rattle.market_spelling.specs.declared.words.Heading.{Heading}
use Rattle.market_spelling.specs.declared.words.Heading.TheVariants as heading
use Rattle.market_text.specs.declared.reader.Reader.{Reader}
use Rattle.command_lines.specs.Names.{place_of}
use Rattle.market_text.specs.Steps.{joins_zones, words_step, header_step, command_step, heading_step, take_day, take_zone, take_border, take_caller, take_begin, may_add_zone, may_add_caller, may_join, new_ends, day_of_word}
use Rattle.market_text.proofs.StepLemmas.{header_is}
use Rattle.market_spelling.proofs.NameLemmas.{test_from_name}
use Rattle.laws_of_texts.specs.Contents.{CallerLine, CommandLine, day_line, zone_line, border_line, caller_line, begin_line, caller_names, IsSamePair, numbers_of, given_by, last_clock_of, turns_of}
use Rattle.laws_of_texts.proofs.Drafts.{Draft, reader_of, day_of_draft}
use Rattle.laws_of_texts.proofs.Places.{AreDeclared, place_of_declared, same_at_place, none_joins, number_at_place}
use Rattle.laws_of_texts.proofs.Spelled.{heading_word, heading_found, heading_of_role, role_spelled, first_found, only_found}

-- a line before `begin`
pub before_begin : (reader : Reader) (row : List (List ℕ)) → reader.has_begun ≡ false → words_step reader row ≡ header_step reader row
before_begin reader row begun = ap (λ b. cond b (command_step reader row) (header_step reader row)) begun

-- the same by its heading
pub by_heading : (reader : Reader) (read : Heading) (words : List (List ℕ)) → reader.has_begun ≡ false
    → words_step reader (heading_word read ∷ words) ≡ heading_step read reader words
by_heading reader read words begun =
    before_begin reader (heading_word read ∷ words) begun
    ∙ header_is reader (heading_word read ∷ words) (heading_word read) words read (first_found (heading_word read) words) (heading_found read)

-- the day of a date
day_step : (reader : Reader) (date : List ℕ) (day : DeliveryDay) → is_none reader.day ≡ true → day_of_word date ≡ Some day
    → take_day reader (date ∷ []) ≡ Some (record reader { day = Some day })
unfolding take_day
day_step reader date day none is = rw (only_found date, none, is) refl

-- a zone that may be added
zone_step : (reader : Reader) (name : List ℕ) → may_add_zone reader name ≡ true
    → take_zone reader (name ∷ []) ≡ Some (record reader { zones = reader.zones ++ name ∷ [] })
unfolding take_zone
zone_step reader name may = rw (only_found name, may) refl

-- a border that may be declared
border_step : (reader : Reader) (one other : List ℕ) (ends : ℕ × ℕ) → new_ends reader (one ∷ other ∷ []) ≡ Some ends
    → take_border reader (one ∷ other ∷ []) ≡ Some (record reader { borders = reader.borders ++ ends ∷ [] })
unfolding take_border
border_step reader one other ends is = rw is refl

-- a caller that may be added
caller_step : (reader : Reader) (role : Role) (name : List ℕ) → may_add_caller reader name ≡ true
    → take_caller role reader (name ∷ []) ≡ Some (record reader {
      callers = reader.callers ++ name ∷ [];
      roles = reader.roles ++ role ∷ [];
      commands = reader.commands ++ [] ∷ [];
      clocks = reader.clocks ++ None ∷ [];
    })
unfolding take_caller
caller_step reader role name may = rw (only_found name, may) refl

-- `begin`
begin_step : (reader : Reader) → nat_lt 0 (length reader.zones) ≡ true → take_begin reader [] ≡ Some (record reader { has_begun = true })
unfolding take_begin
begin_step reader some = ap (λ b. cond b (Some (record reader { has_begun = true })) None) some

-- the test of a zone
zone_test : (reader : Reader) (name : List ℕ) → is_some reader.day ≡ true → length reader.borders ≡ 0 → length reader.callers ≡ 0
    → length reader.zones < 64 → IsName name → place_of reader.zones name ≡ None → may_add_zone reader name ≡ true
unfolding may_add_zone
zone_test reader name day borders callers few is none =
    let no_borders : (length reader.borders == 0) ≡ true = grind (arith, nat_tests) in
    let no_callers : (length reader.callers == 0) ≡ true = grind (arith, nat_tests) in
    let room : nat_lt (length reader.zones) 64 ≡ true = grind (arith, nat_tests) in
    rw (day, no_borders, no_callers, room, test_from_name name is, none) refl

-- the test of a caller
caller_test : (reader : Reader) (name : List ℕ) → 1 ≤ length reader.zones → length reader.callers < 64 → IsName name
    → place_of reader.callers name ≡ None → may_add_caller reader name ≡ true
unfolding may_add_caller
caller_test reader name some few is none =
    let zones : nat_lt 0 (length reader.zones) ≡ true = grind (arith, nat_tests) in
    let room : nat_lt (length reader.callers) 64 ≡ true = grind (arith, nat_tests) in
    rw (zones, room, test_from_name name is, none) refl

-- the test of a border
border_test : (reader : Reader) (first second : ℕ) → length reader.callers ≡ 0 → length reader.borders < 128 → (¬ (first ≡ second))
    → list_any (joins_zones first second) reader.borders ≡ false → may_join reader first second ≡ true
unfolding may_join
border_test reader first second callers few differ none =
    let no_callers : (length reader.callers == 0) ≡ true = grind (arith, nat_tests) in
    let room : nat_lt (length reader.borders) 128 ≡ true = grind (arith, nat_tests) in
    let others : (first == second) ≡ false = grind (arith, nat_tests) in
    rw (no_callers, room, others, none) refl

-- the ends of a border
ends_step : (reader : Reader) (one other : List ℕ) (first second : ℕ) → place_of reader.zones one ≡ Some first → place_of reader.zones other ≡ Some second
    → may_join reader first second ≡ true → new_ends reader (one ∷ other ∷ []) ≡ Some (first, second)
unfolding new_ends
ends_step reader one other first second is_one is_other may = rw (first_found one (other ∷ []), only_found other, is_one, is_other, may) refl

-- a day that there is
day_there : (start : Option (List ℕ × DeliveryDay)) → IsSome start → is_some (option_map (λ (s : List ℕ × DeliveryDay). s.1) start) ≡ true
day_there None is = is
day_there (Some start) is = refl

-- the day is taken
pub day_taken : (draft : Draft) (date : List ℕ) (day : DeliveryDay) → draft.has_begun ≡ false → draft.start ≡ None → day_of_word date ≡ Some day
    → words_step (reader_of draft) (day_line date) ≡ Some (reader_of (record draft { start = Some (date, day) }))
day_taken draft date day begun none is =
    let no_day : is_none (day_of_draft draft) ≡ true = ap (λ (start : Option (List ℕ × DeliveryDay)). is_none (option_map (λ (s : List ℕ × DeliveryDay). s.1) start)) none in
    by_heading (reader_of draft) heading.Day (date ∷ []) begun ∙ day_step (reader_of draft) date day no_day is

-- a zone is taken
pub zone_taken : (draft : Draft) (name : List ℕ) → draft.has_begun ≡ false → IsSome draft.start → length draft.borders ≡ 0 → length draft.callers ≡ 0
    → length draft.zones < 64 → IsName name → place_of draft.zones name ≡ None
    → words_step (reader_of draft) (zone_line name) ≡ Some (reader_of (record draft { zones = draft.zones ++ name ∷ [] }))
zone_taken draft name begun start borders callers few is none =
    let no_borders : length (map (numbers_of draft.zones) draft.borders) ≡ 0 = length-map draft.borders (numbers_of draft.zones) ∙ borders in
    let no_callers : length (caller_names draft.callers) ≡ 0 = length-map draft.callers (λ (caller : CallerLine). caller.name) ∙ callers in
    by_heading (reader_of draft) heading.Zone (name ∷ []) begun
    ∙ zone_step (reader_of draft) name (zone_test (reader_of draft) name (day_there draft.start start) no_borders no_callers few is none)
    ∙ same draft.borders borders
  where
    same : (borders : List (List ℕ × List ℕ)) → length borders ≡ 0
        → Some (record (reader_of draft) { zones = draft.zones ++ name ∷ []; borders = map (numbers_of draft.zones) borders })
        ≡ Some (record (reader_of draft) { zones = draft.zones ++ name ∷ []; borders = map (numbers_of (draft.zones ++ name ∷ [])) borders })
    same [] none = refl
    same (border ∷ more) some = absurd (omega arith)

-- a border is taken
pub border_taken : (draft : Draft) (names : List ℕ × List ℕ) → draft.has_begun ≡ false → length draft.callers ≡ 0
    → length draft.borders < 128 → All (AreDeclared draft.zones) draft.borders → AreDeclared draft.zones names
    → All (λ earlier. ¬ IsSamePair earlier names) draft.borders
    → words_step (reader_of draft) (border_line names) ≡ Some (reader_of (record draft { borders = draft.borders ++ names ∷ [] }))
border_taken draft names begun callers few earlier declared differ =
    let no_callers : length (caller_names draft.callers) ≡ 0 = length-map draft.callers (λ (caller : CallerLine). caller.name) ∙ callers in
    let count : length (map (numbers_of draft.zones) draft.borders) ≡ length draft.borders = length-map draft.borders (numbers_of draft.zones) in
    let room : length (map (numbers_of draft.zones) draft.borders) < 128 = omega arith in
    let one = place_of_declared draft.zones names.0 declared.0 in
    let other = place_of_declared draft.zones names.1 declared.1 in
    let apart : ¬ (one.0 ≡ other.0) = λ same. declared.2 (same_at_place draft.zones names.0 names.1 one.0 other.0 one.1 other.1 same) in
    let none = none_joins draft.zones names.0 names.1 one.0 other.0 draft.borders one.1 other.1 earlier differ in
    let may = border_test (reader_of draft) one.0 other.0 no_callers room apart none in
    let ends = ends_step (reader_of draft) names.0 names.1 one.0 other.0 one.1 other.1 may in
    let numbers : ◌≡◌ {A = ℕ × ℕ} (one.0, other.0) (numbers_of draft.zones names) =
    λ i. (sym (number_at_place draft.zones names.0 one.0 one.1) i, sym (number_at_place draft.zones names.1 other.0 other.1) i) in
    by_heading (reader_of draft) heading.Border (names.0 ∷ names.1 ∷ []) begun
    ∙ border_step (reader_of draft) names.0 names.1 (one.0, other.0) ends
    ∙ ap (λ (ends : ℕ × ℕ). Some (record (reader_of draft) { borders = map (numbers_of draft.zones) draft.borders ++ ends ∷ [] })) numbers
    ∙ ap (λ (borders : List (ℕ × ℕ)). Some (record (reader_of draft) { borders = borders })) (sym (map_push (numbers_of draft.zones) draft.borders names))

-- a caller is taken, who has given no command yet
pub caller_taken : (draft : Draft) (caller : CallerLine) → draft.has_begun ≡ false → 1 ≤ length draft.zones → length draft.callers < 64
    → length draft.commands ≡ 0
    → IsName caller.name → place_of (caller_names draft.callers) caller.name ≡ None
    → words_step (reader_of draft) (caller_line caller) ≡ Some (reader_of (record draft { callers = draft.callers ++ caller ∷ [] }))
unfolding given_by last_clock_of turns_of
caller_taken draft caller begun some few nothing is none =
    let count : length (caller_names draft.callers) ≡ length draft.callers = length-map draft.callers (λ (c : CallerLine). c.name) in
    let room : length (caller_names draft.callers) < 64 = omega arith in
    let may = caller_test (reader_of draft) caller.name some room is none in
    ap (λ (word : List ℕ). words_step (reader_of draft) (word ∷ caller.name ∷ [])) (role_spelled caller.role)
    ∙ by_heading (reader_of draft) (heading_of_role caller.role) (caller.name ∷ []) begun
    ∙ by_role caller.role
    ∙ caller_step (reader_of draft) caller.role caller.name may
    ∙ same draft.commands nothing
  where
    by_role : (role : Role) → heading_step (heading_of_role role) (reader_of draft) (caller.name ∷ []) ≡ take_caller role (reader_of draft) (caller.name ∷ [])
    by_role role.Trader = refl
    by_role role.Operator = refl

    same : (commands : List CommandLine) → length commands ≡ 0
        → Some (record (reader_of draft) {
          callers = caller_names draft.callers ++ caller.name ∷ [];
          roles = map (λ (c : CallerLine). c.role) draft.callers ++ caller.role ∷ [];
          commands = map (given_by commands) (caller_names draft.callers) ++ [] ∷ [];
          clocks = map (λ name. last_clock_of name commands) (caller_names draft.callers) ++ None ∷ [];
          turns = turns_of (caller_names draft.callers) commands;
        })
        ≡ Some (record (reader_of draft) {
          callers = caller_names (draft.callers ++ caller ∷ []);
          roles = map (λ (c : CallerLine). c.role) (draft.callers ++ caller ∷ []);
          commands = map (given_by commands) (caller_names (draft.callers ++ caller ∷ []));
          clocks = map (λ name. last_clock_of name commands) (caller_names (draft.callers ++ caller ∷ []));
          turns = turns_of (caller_names (draft.callers ++ caller ∷ [])) commands;
        })
    same [] none =
        let names : caller_names draft.callers ++ caller.name ∷ [] ≡ caller_names (draft.callers ++ caller ∷ []) = sym (map_push (λ (c : CallerLine). c.name) draft.callers caller) in
        let roles : map (λ (c : CallerLine). c.role) draft.callers ++ caller.role ∷ [] ≡ map (λ (c : CallerLine). c.role) (draft.callers ++ caller ∷ []) = sym (map_push (λ (c : CallerLine). c.role) draft.callers caller) in
        let commands : map (given_by []) (caller_names draft.callers) ++ [] ∷ [] ≡ map (given_by []) (caller_names (draft.callers ++ caller ∷ [])) =
        sym (map_push (given_by []) (caller_names draft.callers) caller.name) ∙ ap (map (given_by [])) names in
        let clocks : map (λ name. last_clock_of name []) (caller_names draft.callers) ++ None ∷ [] ≡ map (λ name. last_clock_of name []) (caller_names (draft.callers ++ caller ∷ [])) =
        sym (map_push (λ name. last_clock_of name []) (caller_names draft.callers) caller.name) ∙ ap (map (λ name. last_clock_of name [])) names in
        λ i. Some (record (reader_of draft) { callers = names i; roles = roles i; commands = commands i; clocks = clocks i; turns = [] })
    same (command ∷ more) some = absurd (omega arith)

-- `begin` is taken
pub begin_taken : (draft : Draft) → draft.has_begun ≡ false → 1 ≤ length draft.zones
    → words_step (reader_of draft) begin_line ≡ Some (reader_of (record draft { has_begun = true }))
begin_taken draft begun some =
    let test : nat_lt 0 (length draft.zones) ≡ true = grind (arith, nat_tests) in
    by_heading (reader_of draft) heading.Begin [] begun ∙ begin_step (reader_of draft) test
