-- What was read stays well formed as lines are added.
use Rattle.std.proofs.Common.{◌≡◌, ℕ, ℤ, ◌+◌, ◌*◌, ◌<◌, ◌≤◌, ◌==◌, Bool, true, false, ◌&&◌, nat_lt, is_none, cond, List, [], ◌∷◌, ◌++◌, length, get_or, refl, sym, ap, ◌∙◌, arith, All, count_by, length-append, map, subst, Option, Some, None, IfSome, IsSome, replicate}
use Rattle.std.specs.Prelude.{slice_set}
use Rattle.std.proofs.lemmas.List.{length-map, length_push, length-set, length-replicate, get_or-map, get_or-set_same, get_or-set_other, get_or_append_left}
use Rattle.std.proofs.lemmas.List.FromFn.{fill_by_all}
use Rattle.std.proofs.lemmas.List.Elements.{All-append, All-push, All-replicate}
use Rattle.std.proofs.Math.Seq.{get_or-append_seam}
use Rattle.std.proofs.lemmas.Bool.Decides.{nat_tests}
use Rattle.std.proofs.lemmas.Bool.{and_parts}
use Rattle.zone_graph.specs.Name.{IsName}
use Rattle.contract_calendar.specs.Day.{DeliveryDay}
use Rattle.market_model.specs.declared.command.Command.{Command}
use Rattle.market_model.specs.declared.setup.Role.{Role}
use Rattle.market_model.specs.declared.setup.Role.TheVariants as role
use Rattle.market_model.specs.declared.setup.Caller.{Caller}
use Rattle.market_text.specs.Session.{IsSession}
use Rattle.market_text.specs.declared.reader.Reader.{Reader}
use borrow.Author.Tests.{ltb-true}
use Rattle.market_spelling.specs.Words.{is_name}
use Rattle.market_spelling.proofs.NameLemmas.{name_from_test}
use Rattle.market_text.specs.Commands.{commands_of, with_commands}
use Rattle.command_lines.specs.Names.{place_of}
use Rattle.market_text.specs.Steps.{may_add_zone, may_add_caller, caller_at, callers_of, session_of}
use Rattle.market_text.specs.Reading.{IsReading}
use Rattle.market_text.proofs.Lists.{All-of-map, count_none, count_more}

-- one zone more
pub with_zone : (reader : Reader) (name : List ℕ) → IsReading reader → length reader.zones < 64 → IsName name
    → IsReading (record reader { zones = reader.zones ++ name ∷ [] })
with_zone reader name r few is =
    let more = length_push reader.zones name in
    record {
      range = r.range;
      some_zone = λ _. omega arith;
      few_zones = omega arith;
      few_borders = r.few_borders;
      few_callers = r.few_callers;
      few_turns = r.few_turns;
      zone_names = All-push IsName reader.zones name r.zone_names is;
      caller_names = r.caller_names;
      ends = λ k d lt. let h = r.ends k d lt in (omega arith, omega arith);
      known = r.known;
      matched_roles = r.matched_roles;
      matched = r.matched;
      clocked = r.clocked;
      counted = r.counted;
    }

-- one border more
pub with_border : (reader : Reader) (ends : ℕ × ℕ) → IsReading reader → length reader.borders < 128
    → ends.0 < length reader.zones → ends.1 < length reader.zones
    → IsReading (record reader { borders = reader.borders ++ ends ∷ [] })
with_border reader ends r few one other =
    let more = length_push reader.borders ends in
    record {
      range = r.range;
      some_zone = r.some_zone;
      few_zones = r.few_zones;
      few_borders = omega arith;
      few_callers = r.few_callers;
      few_turns = r.few_turns;
      zone_names = r.zone_names;
      caller_names = r.caller_names;
      ends = All-push (λ ends. (ends.0 < length reader.zones) × (ends.1 < length reader.zones)) reader.borders ends r.ends (one, other);
      known = r.known;
      matched_roles = r.matched_roles;
      matched = r.matched;
      clocked = r.clocked;
      counted = r.counted;
    }

-- the counts with one caller more, who gave no command
counted_with_caller : (commands : List (List Command)) (turns : List ℕ)
    → ((caller : ℕ) → caller < length commands → length (commands_of commands caller) ≡ count_by (λ turn. turn == caller) turns)
    → All (λ turn. turn < length commands) turns
    → (caller : ℕ) → caller < length (commands ++ [] ∷ [])
    → length (commands_of (commands ++ [] ∷ []) caller) ≡ count_by (λ turn. turn == caller) turns
counted_with_caller commands turns counted known caller lt = by (caller == length commands) refl
  where
    by : (b : Bool) → (caller == length commands) ≡ b
        → length (commands_of (commands ++ [] ∷ []) caller) ≡ count_by (λ turn. turn == caller) turns
    by true e =
        let at : caller ≡ length commands = grind (arith, nat_tests) in
        rw at (rw (get_or-append_seam commands [] [] []) (sym (count_none turns (length commands) known)))
    by false e =
        let longer = length_push commands [] in
        let differs : caller ≡ length commands → ⊥ = grind (arith, nat_tests) in
        let before : caller < length commands = omega arith in
        rw (get_or_append_left commands ([] ∷ []) [] caller before) (counted caller before)

-- one caller more
pub with_caller : (reader : Reader) (name : List ℕ) (role : Role) → IsReading reader → length reader.callers < 64 → IsName name
    → IsReading (record reader { callers = reader.callers ++ name ∷ []; roles = reader.roles ++ role ∷ []; commands = reader.commands ++ [] ∷ []; clocks = reader.clocks ++ None ∷ [] })
with_caller reader name role r few is =
    let names = length_push reader.callers name in
    let roles = length_push reader.roles role in
    let lists : length (reader.commands ++ [] ∷ []) ≡ length reader.commands + 1 = length_push reader.commands [] in
    let clocks : length (reader.clocks ++ None ∷ []) ≡ length reader.clocks + 1 = length_push reader.clocks None in
    let matched = r.matched in
    let matched_roles = r.matched_roles in
    let clocked = r.clocked in
    record {
      range = r.range;
      some_zone = r.some_zone;
      few_zones = r.few_zones;
      few_borders = r.few_borders;
      few_callers = omega arith;
      few_turns = r.few_turns;
      zone_names = r.zone_names;
      caller_names = All-push IsName reader.callers name r.caller_names is;
      ends = r.ends;
      known = λ k d lt. let h = r.known k d lt in omega arith;
      matched_roles = omega arith;
      matched = omega arith;
      clocked = omega arith;
      counted = counted_with_caller reader.commands reader.turns r.counted (λ k d lt. let h = r.known k d lt in omega arith);
    }

-- the counts with more commands of a caller
counted_with_commands : (lists : List (List Command)) (turns : List ℕ) (giver : ℕ) (commands : List Command)
    → ((caller : ℕ) → caller < length lists → length (commands_of lists caller) ≡ count_by (λ turn. turn == caller) turns)
    → giver < length lists
    → (caller : ℕ) → caller < length lists
    → length (commands_of (with_commands lists giver commands) caller) ≡ count_by (λ turn. turn == caller) (turns ++ replicate (length commands) giver)
counted_with_commands lists turns giver commands counted there caller lt = by (giver == caller) refl
  where
    more : count_by (λ turn. turn == caller) (turns ++ replicate (length commands) giver) ≡ count_by (λ turn. turn == caller) turns + length commands * cond (giver == caller) 1 0
    more = count_more turns caller giver (length commands)

    by : (b : Bool) → (giver == caller) ≡ b
        → length (commands_of (with_commands lists giver commands) caller) ≡ count_by (λ turn. turn == caller) (turns ++ replicate (length commands) giver)
    by true e =
        let at : giver ≡ caller = grind (arith, nat_tests) in
        let given : commands_of (with_commands lists giver commands) caller ≡ commands_of lists giver ++ commands = rw (← at) (get_or-set_same lists giver (commands_of lists giver ++ commands) [] there) in
        let longer : length (commands_of lists giver ++ commands) ≡ length (commands_of lists giver) + length commands = length-append (commands_of lists giver) commands in
        let before : length (commands_of lists giver) ≡ count_by (λ turn. turn == caller) turns = rw at (counted caller lt) in
        let all : count_by (λ turn. turn == caller) (turns ++ replicate (length commands) giver) ≡ count_by (λ turn. turn == caller) turns + length commands * 1 = more ∙ ap (λ b. count_by (λ turn. turn == caller) turns + length commands * cond b 1 0) e in
        rw given (omega arith)
    by false e =
        let differs : caller ≡ giver → ⊥ = grind (arith, nat_tests) in
        let all : count_by (λ turn. turn == caller) (turns ++ replicate (length commands) giver) ≡ count_by (λ turn. turn == caller) turns + length commands * 0 = more ∙ ap (λ b. count_by (λ turn. turn == caller) turns + length commands * cond b 1 0) e in
        let before = counted caller lt in
        rw (get_or-set_other lists giver caller (commands_of lists giver ++ commands) [] differs) (omega arith)

-- more commands of a caller
pub with_turns : (reader : Reader) (caller : ℕ) (commands : List Command) → IsReading reader → caller < length reader.callers
    → length reader.turns + length commands ≤ 262144
    → IsReading (record reader { commands = with_commands reader.commands caller commands; turns = reader.turns ++ replicate (length commands) caller })
with_turns reader caller commands r there few =
    let matched = r.matched in
    let among : caller < length reader.commands = omega arith in
    let turns : length (reader.turns ++ replicate (length commands) caller) ≡ length reader.turns + length commands = simp (length-append, length-replicate) in
    let given = commands_of reader.commands caller ++ commands in
    let same : length (slice_set reader.commands caller given) ≡ length reader.commands = length-set reader.commands caller given in
    record {
      range = r.range;
      some_zone = r.some_zone;
      few_zones = r.few_zones;
      few_borders = r.few_borders;
      few_callers = r.few_callers;
      few_turns = omega arith;
      zone_names = r.zone_names;
      caller_names = r.caller_names;
      ends = r.ends;
      known = All-append (λ turn. turn < length reader.callers) reader.turns (replicate (length commands) caller) r.known (All-replicate (λ turn. turn < length reader.callers) (length commands) caller there);
      matched_roles = r.matched_roles;
      matched = same ∙ matched;
      clocked = r.clocked;
      counted = λ k lt. counted_with_commands reader.commands reader.turns caller commands r.counted among k (omega arith);
    }

-- the hours of the day that was read
hours_in_range : (day : Option DeliveryDay) (hours : ℕ) → IfSome day (λ day. (23 ≤ day.hours) × (day.hours ≤ 25))
    → IfSome day (λ day. hours ≡ day.hours) → IsSome day → (23 ≤ hours) × (hours ≤ 25)
hours_in_range (Some day) hours range is some = (omega arith, omega arith)
hours_in_range None hours range is some = absurd cc

-- what was read is a session once it has begun
pub is_session : (reader : Reader) (hours : ℕ) (zones : List (List ℕ)) (callers : List Caller) (commands : List (List Command))
    → IsReading reader → IfSome reader.day (λ day. hours ≡ day.hours) → IsSome reader.day → reader.has_begun ≡ true
    → zones ≡ reader.zones → commands ≡ reader.commands
    → map (λ caller. caller.name) callers ≡ reader.callers
    → map (λ caller. caller.room) callers ≡ map length reader.commands
    → IsSession (record {
      setup = record { hours = hours; zones = zones; borders = reader.borders; callers = callers };
      commands = commands;
      turns = reader.turns;
    })
is_session reader hours zones callers commands r is_hours some_day begun same_zones same_commands names rooms =
    let range = hours_in_range reader.day hours r.range is_hours some_day in
    let some = r.some_zone begun in
    let as_many : length callers ≡ length reader.callers = sym (length-map callers (λ caller. caller.name)) ∙ ap length names in
    let few_callers = r.few_callers in
    let matched = r.matched in
    rw (same_zones, same_commands) (record {
      least_hours = range.0;
      most_hours = range.1;
      some_zone = some;
      few_zones = r.few_zones;
      few_borders = r.few_borders;
      few_callers = omega arith;
      named = record {
        zones = r.zone_names;
        borders = r.ends;
        callers = All-of-map IsName (λ caller. caller.name) callers (subst (All IsName) (sym names) r.caller_names);
      };
      matched = matched ∙ sym as_many;
      known = λ k d lt. let h = r.known k d lt in omega arith;
      counted = r.counted;
      rooms = rooms;
      few = r.few_turns;
    })

-- an option of which the test says that there is no value
none_from_test : {A : Type 0} (option : Option A) → is_none option ≡ true → option ≡ None
none_from_test None is = refl
none_from_test (Some value) is = absurd cc

-- what the tests of a new name give
tests_of_name : (a : Bool) (names : List (List ℕ)) (name : List ℕ) → (a && is_name name && is_none (place_of names name)) ≡ true
    → (a ≡ true) × IsName name × (place_of names name ≡ None)
tests_of_name a names name is =
    let parts = and_parts (a && is_name name) (is_none (place_of names name)) is in
    let first = and_parts a (is_name name) parts.0 in
    (first.0, name_from_test name first.1, none_from_test (place_of names name) parts.1)

-- what a zone that may be added is
pub allowed_zone : (reader : Reader) (name : List ℕ) → may_add_zone reader name ≡ true
    → (length reader.zones < 64) × IsName name × (place_of reader.zones name ≡ None)
unfolding may_add_zone
allowed_zone reader name is =
    let tests = tests_of_name _ reader.zones name is in
    let few = and_parts _ (nat_lt (length reader.zones) 64) tests.0 in
    (ltb-true (length reader.zones) 64 few.1, tests.1, tests.2)

-- what a caller that may be added is
pub allowed_caller : (reader : Reader) (name : List ℕ) → may_add_caller reader name ≡ true
    → (length reader.callers < 64) × IsName name × (place_of reader.callers name ≡ None)
unfolding may_add_caller
allowed_caller reader name is =
    let tests = tests_of_name _ reader.callers name is in
    let few = and_parts (nat_lt 0 (length reader.zones)) (nat_lt (length reader.callers) 64) tests.0 in
    (ltb-true (length reader.callers) 64 few.1, tests.1, tests.2)

-- a zone is added
pub zone_added : (reader : Reader) (zones : List (List ℕ)) (name : List ℕ) → IsReading reader → may_add_zone reader name ≡ true
    → zones ≡ reader.zones ++ name ∷ [] → IsReading (record reader { zones = zones })
zone_added reader zones name r may is =
    let allowed = allowed_zone reader name may in
    rw is (with_zone reader name r allowed.0 allowed.1)

-- a caller is added
pub caller_added : (reader : Reader) (callers : List (List ℕ)) (roles : List Role) (commands : List (List Command)) (clocks : List (Option ℤ))
    (name : List ℕ) (role : Role) → IsReading reader → may_add_caller reader name ≡ true → callers ≡ reader.callers ++ name ∷ []
    → roles ≡ reader.roles ++ role ∷ [] → commands ≡ reader.commands ++ [] ∷ [] → clocks ≡ reader.clocks ++ None ∷ []
    → IsReading (record reader { callers = callers; roles = roles; commands = commands; clocks = clocks })
caller_added reader callers roles commands clocks name role r may is_callers is_roles is_commands is_clocks =
    let allowed = allowed_caller reader name may in
    rw (is_callers, is_roles, is_commands, is_clocks) (with_caller reader name role r allowed.0 allowed.1)

-- callers of these names, roles and rooms are those that were read
pub callers_are : (reader : Reader) (callers : List Caller) → IsReading reader
    → map (λ caller. caller.name) callers ≡ reader.callers → map (λ caller. caller.role) callers ≡ reader.roles
    → map (λ caller. caller.room) callers ≡ map length reader.commands → callers ≡ callers_of reader
callers_are reader callers r names roles rooms =
    let none : Caller = record { name = []; role = role.Trader; room = 0 } in
    let count : length callers ≡ length reader.callers = sym (length-map callers (λ caller. caller.name)) ∙ ap length names in
    fill_by_all (caller_at reader) callers (length reader.callers) none count
    (λ k lt.
    let among : k < length callers = omega arith in
    let matched = r.matched in
    let given : k < length reader.commands = omega arith in
    let name : (get_or callers k none).name ≡ get_or reader.callers k [] = sym (get_or-map (λ (caller : Caller). caller.name) callers k none [] among) ∙ ap (λ (xs : List (List ℕ)). get_or xs k []) names in
    let role : (get_or callers k none).role ≡ get_or reader.roles k role.Trader = sym (get_or-map (λ (caller : Caller). caller.role) callers k none role.Trader among) ∙ ap (λ (xs : List Role). get_or xs k role.Trader) roles in
    let room : (get_or callers k none).room ≡ length (get_or reader.commands k []) = sym (get_or-map (λ (caller : Caller). caller.room) callers k none 0 among) ∙ ap (λ (xs : List ℕ). get_or xs k 0) rooms ∙ get_or-map length reader.commands k [] 0 given in
    λ i. record { name = name i; role = role i; room = room i })

-- what was read is this session once it has begun
pub finished : (reader : Reader) (day : DeliveryDay) (hours : ℕ) (zones : List (List ℕ)) (callers : List Caller) (commands : List (List Command))
    → reader.day ≡ Some day → reader.has_begun ≡ true → hours ≡ day.hours → zones ≡ reader.zones → callers ≡ callers_of reader
    → commands ≡ reader.commands
    → session_of reader ≡ Some (record {
      setup = record { hours = hours; zones = zones; borders = reader.borders; callers = callers };
      commands = commands;
      turns = reader.turns;
    })
unfolding session_of
finished reader day hours zones callers commands is_day begun is_hours is_zones is_callers is_commands =
    rw (is_day, begun, is_hours, is_zones, is_callers, is_commands) refl

-- a border is added
pub border_added : (reader : Reader) (borders : List (ℕ × ℕ)) (ends : ℕ × ℕ) → IsReading reader → length reader.borders < 128
    → ends.0 < length reader.zones → ends.1 < length reader.zones → borders ≡ reader.borders ++ ends ∷ []
    → IsReading (record reader { borders = borders })
border_added reader borders ends r few one other is = rw is (with_border reader ends r few one other)
