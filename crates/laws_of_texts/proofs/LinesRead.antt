-- What a line is that is taken.
use Rattle.std.proofs.Common.{◌≡◌, ℕ, ℤ, ◌+◌, ◌<◌, ◌≤◌, ◌==◌, nat_lt, nat_le, not, Bool, true, false, List, [], ◌∷◌, length, refl, arith, Option, Some, None, is_none, is_some}
use Rattle.std.specs.List.{list_any}
use Rattle.std.proofs.lemmas.Bool.{eqb-true, and_parts}
use Rattle.std.proofs.lemmas.Bool.Decides.{nat_tests}
use Rattle.contract_calendar.specs.Day.{DeliveryDay}
use Rattle.market_model.specs.declared.command.Command.{Command}
use Rattle.market_model.specs.declared.setup.Role.{Role}
use Rattle.market_spelling.specs.Dates.{instant_of}
use Rattle.market_spelling.specs.Words.{heading_of, verb_of, is_name}
use Rattle.market_spelling.specs.declared.words.Heading.{Heading}
use Rattle.market_spelling.specs.declared.words.Verb.{Verb}
use Rattle.market_text.specs.declared.reader.Reader.{Reader}
use Rattle.command_lines.specs.Clocks.{gates_of, last_clock}
use Rattle.command_lines.specs.CommandLines.{first_word, only_word, command_of}
use Rattle.command_lines.specs.Names.{place_of}
use Rattle.market_text.specs.Steps.{joins_zones, header_step, command_step, entry_step, clock_step, take_commands, take_day, take_zone, take_border, take_caller, take_begin, may_add_zone, may_add_caller, may_join, new_ends, day_of_word}

-- nothing is no value
clash : {A : Type 0} (value : A) → None ≡ Some value → ⊥
clash value none = cc

-- the heading of a line
pub record HeadingRead (reader : Reader) (row : List (List ℕ)) : Type 0 where
  pub parts : List ℕ × List (List ℕ)
  pub first : first_word row ≡ Some parts
  pub heading : Heading
  pub is : heading_of parts.0 ≡ Some heading

pub heading_read : (reader : Reader) (row : List (List ℕ)) (read : Reader) → header_step reader row ≡ Some read → HeadingRead reader row
unfolding header_step
heading_read reader row read is = by (first_word row) refl
  where
    by_heading : (parts : List ℕ × List (List ℕ)) → first_word row ≡ Some parts → (o : Option Heading) → heading_of parts.0 ≡ o → HeadingRead reader row
    by_heading parts first None none = let h = rw (first, none) at is in absurd (clash read h)
    by_heading parts first (Some heading) some = record { parts = parts; first = first; heading = heading; is = some }

    by : (o : Option (List ℕ × List (List ℕ))) → first_word row ≡ o → HeadingRead reader row
    by None none = let h = rw none at is in absurd (clash read h)
    by (Some parts) first = by_heading parts first (heading_of parts.0) refl

-- the day
pub record DayRead (reader : Reader) (words : List (List ℕ)) : Type 0 where
  pub date : List ℕ
  pub only : only_word words ≡ Some date
  pub no_day : is_none reader.day ≡ true
  pub day : DeliveryDay
  pub is : day_of_word date ≡ Some day

pub day_read : (reader : Reader) (words : List (List ℕ)) (read : Reader) → take_day reader words ≡ Some read → DayRead reader words
unfolding take_day
day_read reader words read is = by (only_word words) refl
  where
    by_day : (date : List ℕ) → only_word words ≡ Some date → is_none reader.day ≡ true → (o : Option DeliveryDay) → day_of_word date ≡ o → DayRead reader words
    by_day date only no_day None none = let h = rw (only, no_day, none) at is in absurd (clash read h)
    by_day date only no_day (Some day) some = record { date = date; only = only; no_day = no_day; day = day; is = some }

    by_test : (date : List ℕ) → only_word words ≡ Some date → (b : Bool) → is_none reader.day ≡ b → DayRead reader words
    by_test date only true test = by_day date only test (day_of_word date) refl
    by_test date only false test = let h = rw (only, test) at is in absurd (clash read h)

    by : (o : Option (List ℕ)) → only_word words ≡ o → DayRead reader words
    by None none = let h = rw none at is in absurd (clash read h)
    by (Some date) only = by_test date only (is_none reader.day) refl

-- a zone
pub record ZoneRead (reader : Reader) (words : List (List ℕ)) : Type 0 where
  pub name : List ℕ
  pub only : only_word words ≡ Some name
  pub may : may_add_zone reader name ≡ true

pub zone_read : (reader : Reader) (words : List (List ℕ)) (read : Reader) → take_zone reader words ≡ Some read → ZoneRead reader words
unfolding take_zone
zone_read reader words read is = by (only_word words) refl
  where
    by_test : (name : List ℕ) → only_word words ≡ Some name → (b : Bool) → may_add_zone reader name ≡ b → ZoneRead reader words
    by_test name only true test = record { name = name; only = only; may = test }
    by_test name only false test = let h = rw (only, test) at is in absurd (clash read h)

    by : (o : Option (List ℕ)) → only_word words ≡ o → ZoneRead reader words
    by None none = let h = rw none at is in absurd (clash read h)
    by (Some name) only = by_test name only (may_add_zone reader name) refl

-- when a zone may be added
pub zone_facts : (reader : Reader) (name : List ℕ) → may_add_zone reader name ≡ true
    → (is_some reader.day ≡ true) × (length reader.borders ≡ 0) × (length reader.callers ≡ 0)
unfolding may_add_zone
zone_facts reader name is =
    let absent = and_parts _ (is_none (place_of reader.zones name)) is in
    let named = and_parts _ (is_name name) absent.0 in
    let few = and_parts _ (nat_lt (length reader.zones) 64) named.0 in
    let callers = and_parts _ (length reader.callers == 0) few.0 in
    let borders = and_parts _ (length reader.borders == 0) callers.0 in
    (borders.0, eqb-true (length reader.borders) 0 borders.1, eqb-true (length reader.callers) 0 callers.1)

-- a border
pub record BorderRead (reader : Reader) (words : List (List ℕ)) : Type 0 where
  pub parts : List ℕ × List (List ℕ)
  pub first : first_word words ≡ Some parts
  pub last : List ℕ
  pub only : only_word parts.1 ≡ Some last
  pub one : ℕ
  pub is_one : place_of reader.zones parts.0 ≡ Some one
  pub other : ℕ
  pub is_other : place_of reader.zones last ≡ Some other
  pub may : may_join reader one other ≡ true

pub border_read : (reader : Reader) (words : List (List ℕ)) (read : Reader) → take_border reader words ≡ Some read → BorderRead reader words
unfolding take_border new_ends
border_read reader words read is = by (first_word words) refl
  where
    by_test : (parts : List ℕ × List (List ℕ)) → first_word words ≡ Some parts → (last : List ℕ) → only_word parts.1 ≡ Some last
        → (one : ℕ) → place_of reader.zones parts.0 ≡ Some one → (other : ℕ) → place_of reader.zones last ≡ Some other
        → (b : Bool) → may_join reader one other ≡ b → BorderRead reader words
    by_test parts first last only one is_one other is_other true test =
        record { parts = parts; first = first; last = last; only = only; one = one; is_one = is_one; other = other; is_other = is_other; may = test }
    by_test parts first last only one is_one other is_other false test = let h = rw (first, only, is_one, is_other, test) at is in absurd (clash read h)

    by_other : (parts : List ℕ × List (List ℕ)) → first_word words ≡ Some parts → (last : List ℕ) → only_word parts.1 ≡ Some last
        → (one : ℕ) → place_of reader.zones parts.0 ≡ Some one → (o : Option ℕ) → place_of reader.zones last ≡ o → BorderRead reader words
    by_other parts first last only one is_one None none = let h = rw (first, only, is_one, none) at is in absurd (clash read h)
    by_other parts first last only one is_one (Some other) is_other = by_test parts first last only one is_one other is_other (may_join reader one other) refl

    by_one : (parts : List ℕ × List (List ℕ)) → first_word words ≡ Some parts → (last : List ℕ) → only_word parts.1 ≡ Some last
        → (o : Option ℕ) → place_of reader.zones parts.0 ≡ o → BorderRead reader words
    by_one parts first last only None none = let h = rw (first, only, none) at is in absurd (clash read h)
    by_one parts first last only (Some one) is_one = by_other parts first last only one is_one (place_of reader.zones last) refl

    by_last : (parts : List ℕ × List (List ℕ)) → first_word words ≡ Some parts → (o : Option (List ℕ)) → only_word parts.1 ≡ o → BorderRead reader words
    by_last parts first None none = let h = rw (first, none) at is in absurd (clash read h)
    by_last parts first (Some last) only = by_one parts first last only (place_of reader.zones parts.0) refl

    by : (o : Option (List ℕ × List (List ℕ))) → first_word words ≡ o → BorderRead reader words
    by None none = let h = rw none at is in absurd (clash read h)
    by (Some parts) first = by_last parts first (only_word parts.1) refl

-- when a border may be declared
pub join_facts : (reader : Reader) (one other : ℕ) → may_join reader one other ≡ true
    → (length reader.callers ≡ 0) × (length reader.borders < 128) × (¬ (one ≡ other)) × (list_any (joins_zones one other) reader.borders ≡ false)
unfolding may_join
join_facts reader one other is =
    let absent = and_parts _ (not (list_any (joins_zones one other) reader.borders)) is in
    let apart = and_parts _ (not (one == other)) absent.0 in
    let few = and_parts _ (nat_lt (length reader.borders) 128) apart.0 in
    (eqb-true (length reader.callers) 0 few.0, below few.1, differ apart.1, negated (list_any (joins_zones one other) reader.borders) absent.1)
  where
    below : nat_lt (length reader.borders) 128 ≡ true → length reader.borders < 128
    below test = grind (arith, nat_tests)

    differ : not (one == other) ≡ true → ¬ (one ≡ other)
    differ test = λ same. grind (arith, nat_tests)

    negated : (b : Bool) → not b ≡ true → b ≡ false
    negated true test = absurd cc
    negated false test = refl

-- a caller
pub record CallerRead (reader : Reader) (words : List (List ℕ)) : Type 0 where
  pub name : List ℕ
  pub only : only_word words ≡ Some name
  pub may : may_add_caller reader name ≡ true

pub caller_read : (role : Role) (reader : Reader) (words : List (List ℕ)) (read : Reader) → take_caller role reader words ≡ Some read → CallerRead reader words
unfolding take_caller
caller_read role reader words read is = by (only_word words) refl
  where
    by_test : (name : List ℕ) → only_word words ≡ Some name → (b : Bool) → may_add_caller reader name ≡ b → CallerRead reader words
    by_test name only true test = record { name = name; only = only; may = test }
    by_test name only false test = let h = rw (only, test) at is in absurd (clash read h)

    by : (o : Option (List ℕ)) → only_word words ≡ o → CallerRead reader words
    by None none = let h = rw none at is in absurd (clash read h)
    by (Some name) only = by_test name only (may_add_caller reader name) refl

-- when a caller may be added
pub caller_facts : (reader : Reader) (name : List ℕ) → may_add_caller reader name ≡ true → 1 ≤ length reader.zones
unfolding may_add_caller
caller_facts reader name is =
    let absent = and_parts _ (is_none (place_of reader.callers name)) is in
    let named = and_parts _ (is_name name) absent.0 in
    let few = and_parts (nat_lt 0 (length reader.zones)) (nat_lt (length reader.callers) 64) named.0 in
    above few.0
  where
    above : nat_lt 0 (length reader.zones) ≡ true → 1 ≤ length reader.zones
    above test = grind (arith, nat_tests)

-- `begin`
pub begin_read : (reader : Reader) (words : List (List ℕ)) (read : Reader) → take_begin reader words ≡ Some read
    → (length words ≡ 0) × (1 ≤ length reader.zones)
unfolding take_begin
begin_read reader words read is = by (length words == 0) (nat_lt 0 (length reader.zones)) refl refl
  where
    by : (a b : Bool) → (length words == 0) ≡ a → nat_lt 0 (length reader.zones) ≡ b → (length words ≡ 0) × (1 ≤ length reader.zones)
    by true true none some = (eqb-true (length words) 0 none, grind (arith, nat_tests))
    by true false none some = let h = rw (none, some) at is in absurd (clash read h)
    by false b none some = let h = rw none at is in absurd (clash read h)

-- the line of a command
pub record CommandRead (reader : Reader) (row : List (List ℕ)) : Type 0 where
  pub parts : List ℕ × List (List ℕ)
  pub first : first_word row ≡ Some parts
  pub others : List ℕ × List (List ℕ)
  pub second : first_word parts.1 ≡ Some others
  pub caller : ℕ
  pub is_caller : place_of reader.callers parts.0 ≡ Some caller
  pub verb : Verb
  pub is_verb : verb_of others.0 ≡ Some verb

pub command_read : (reader : Reader) (row : List (List ℕ)) (read : Reader) → command_step reader row ≡ Some read → CommandRead reader row
unfolding command_step
command_read reader row read is = by (first_word row) refl
  where
    by_verb : (parts : List ℕ × List (List ℕ)) → first_word row ≡ Some parts → (others : List ℕ × List (List ℕ)) → first_word parts.1 ≡ Some others
        → (caller : ℕ) → place_of reader.callers parts.0 ≡ Some caller → (o : Option Verb) → verb_of others.0 ≡ o → CommandRead reader row
    by_verb parts first others second caller is_caller None none = let h = rw (first, second, is_caller, none) at is in absurd (clash read h)
    by_verb parts first others second caller is_caller (Some verb) is_verb =
        record { parts = parts; first = first; others = others; second = second; caller = caller; is_caller = is_caller; verb = verb; is_verb = is_verb }

    by_caller : (parts : List ℕ × List (List ℕ)) → first_word row ≡ Some parts → (others : List ℕ × List (List ℕ)) → first_word parts.1 ≡ Some others
        → (o : Option ℕ) → place_of reader.callers parts.0 ≡ o → CommandRead reader row
    by_caller parts first others second None none = let h = rw (first, second, none) at is in absurd (clash read h)
    by_caller parts first others second (Some caller) is_caller = by_verb parts first others second caller is_caller (verb_of others.0) refl

    by_second : (parts : List ℕ × List (List ℕ)) → first_word row ≡ Some parts → (o : Option (List ℕ × List (List ℕ))) → first_word parts.1 ≡ o → CommandRead reader row
    by_second parts first None none = let h = rw (first, none) at is in absurd (clash read h)
    by_second parts first (Some others) second = by_caller parts first others second (place_of reader.callers parts.0) refl

    by : (o : Option (List ℕ × List (List ℕ))) → first_word row ≡ o → CommandRead reader row
    by None none = let h = rw none at is in absurd (clash read h)
    by (Some parts) first = by_second parts first (first_word parts.1) refl

-- commands that are taken
pub take_read : (reader : Reader) (caller : ℕ) (commands : List Command) (read : Reader) → take_commands reader caller commands ≡ Some read
    → length reader.turns + length commands ≤ 262144
unfolding take_commands
take_read reader caller commands read is = by (nat_le (length reader.turns + length commands) 262144) refl
  where
    by : (b : Bool) → nat_le (length reader.turns + length commands) 262144 ≡ b → length reader.turns + length commands ≤ 262144
    by true room = grind (arith, nat_tests)
    by false room = let h = rw room at is in absurd (clash read h)

-- the one command of a line
pub record EntryRead (verb : Verb) (caller : ℕ) (reader : Reader) (words : List (List ℕ)) (read : Reader) : Type 0 where
  pub command : Command
  pub is : command_of verb reader.zones words ≡ Some command
  pub taken : take_commands reader caller (command ∷ []) ≡ Some read

pub entry_read : (verb : Verb) (caller : ℕ) (reader : Reader) (words : List (List ℕ)) (read : Reader) → entry_step verb caller reader words ≡ Some read
    → EntryRead verb caller reader words read
unfolding entry_step
entry_read verb caller reader words read is = by (command_of verb reader.zones words) refl
  where
    by : (o : Option Command) → command_of verb reader.zones words ≡ o → EntryRead verb caller reader words read
    by None none = let h = rw none at is in absurd (clash read h)
    by (Some command) some = record { command = command; is = some; taken = rw some at is }

-- a clock line
pub record ClockRead (caller : ℕ) (reader : Reader) (words : List (List ℕ)) : Type 0 where
  pub word : List ℕ
  pub only : only_word words ≡ Some word
  pub day : DeliveryDay
  pub is_day : reader.day ≡ Some day
  pub instant : ℤ
  pub is : instant_of word ≡ Some instant
  pub few : length reader.turns + length (gates_of day (last_clock reader.clocks caller) instant) ≤ 262144

pub clock_read : (caller : ℕ) (reader : Reader) (words : List (List ℕ)) (read : Reader) → clock_step caller reader words ≡ Some read
    → ClockRead caller reader words
unfolding clock_step
clock_read caller reader words read is = by (only_word words) refl
  where
    by_instant : (word : List ℕ) → only_word words ≡ Some word → (day : DeliveryDay) → reader.day ≡ Some day
        → (o : Option ℤ) → instant_of word ≡ o → ClockRead caller reader words
    by_instant word only day is_day None none = let h = rw (only, is_day, none) at is in absurd (clash read h)
    by_instant word only day is_day (Some instant) some =
        let few = take_read _ caller (gates_of day (last_clock reader.clocks caller) instant) read (rw (only, is_day, some) at is) in
        record { word = word; only = only; day = day; is_day = is_day; instant = instant; is = some; few = few }

    by_day : (word : List ℕ) → only_word words ≡ Some word → (o : Option DeliveryDay) → reader.day ≡ o → ClockRead caller reader words
    by_day word only None none = let h = rw (only, none) at is in absurd (clash read h)
    by_day word only (Some day) is_day = by_instant word only day is_day (instant_of word) refl

    by : (o : Option (List ℕ)) → only_word words ≡ o → ClockRead caller reader words
    by None none = let h = rw none at is in absurd (clash read h)
    by (Some word) only = by_day word only reader.day refl
