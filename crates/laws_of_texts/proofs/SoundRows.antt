-- What is read after lines is what they say, and the session at the end.
use Rattle.std.proofs.Common.{◌≡◌, ℕ, ◌+◌, ◌<◌, ◌≤◌, nat_lt, Bool, true, false, cond, List, [], ◌∷◌, ◌++◌, length, take, map, get_or, refl, sym, ap, ◌∙◌, subst, arith, codes, Option, Some, None, IfSome, IsSome, append_assoc, length-append}
use Rattle.std.specs.Prelude.{option_map}
use Rattle.std.proofs.lemmas.Bool.Decides.{nat_tests}
use Rattle.std.proofs.lemmas.List.{append-nil, length-map, length_push, map_push, take-append-le, get_or_append_left, take_at, get_or_at, get_or-map}
use Rattle.std.proofs.lemmas.List.FromFn.{fill_by_all}
use Rattle.contract_calendar.specs.Day.{DeliveryDay}
use Rattle.market_model.specs.declared.command.Command.{Command}
use Rattle.market_model.specs.declared.setup.Caller.{Caller}
use Rattle.market_spelling.specs.Dates.{instant_of}
use Rattle.command_lines.specs.CommandLines.{command_of}
use Rattle.command_lines.specs.Names.{place_of}
use Rattle.market_model.specs.declared.setup.Role.TheVariants as role
use Rattle.market_spelling.specs.Chain.{◌>>=◌}
use Rattle.market_spelling.specs.Words.{is_word, verb_of}
use Rattle.market_spelling.specs.declared.words.Verb.{Verb}
use Rattle.market_text.specs.declared.reader.Reader.{Reader}
use Rattle.market_text.specs.declared.session.Session.{Session}
use Rattle.command_lines.specs.Clocks.{gates_of, last_clock}
use Rattle.market_text.specs.Steps.{words_step, day_of_word, verb_step, clock_step, entry_step, is_clock, session_of, callers_of, caller_at}
use Rattle.market_text.proofs.ReadingLemmas.{finished}
use Rattle.market_text.proofs.StepLemmas.{command_is, clock_is, entry_is}
use Rattle.laws_of_texts.specs.Contents.{CallerLine, CommandLine, Contents, IsAllowed, IsCommandLine, command_line, caller_names, last_clock_of, gates_of_words, entry_of_words, commands_of_line, all_commands, given_by, caller_of_line, lines_of_contents, session_of_contents, zone_line, border_line, caller_line}
use Rattle.laws_of_texts.proofs.CommandSteps.{after_begin, command_taken}
use Rattle.laws_of_texts.proofs.Drafts.{Draft, IsDraft, reader_of, rows_of, start_rows, begin_rows, day_of_draft, all_more, count_turns}
use Rattle.laws_of_texts.proofs.LinesRead.{command_read, clock_read, entry_read, take_read}
use Rattle.laws_of_texts.proofs.Places.{declared_at_place, name_at_place}
use Rattle.laws_of_texts.proofs.Runs.{first_step, after_rows}
use Rattle.laws_of_texts.proofs.Sound.{Next, header_next, moved, behind}
use Rattle.laws_of_texts.proofs.Spelled.{first_is, clock_word}

-- a list with one line more, at the places before it and at its own
each_more : (P : List CommandLine → CommandLine → Type 0) (lines : List CommandLine) (line : CommandLine)
    → ((k : ℕ) (d : CommandLine) → k < length lines → P (take k lines) (get_or lines k d)) → P lines line
    → (k : ℕ) (d : CommandLine) → k < length (lines ++ line ∷ []) → P (take k (lines ++ line ∷ [])) (get_or (lines ++ line ∷ []) k d)
each_more P lines line before here k d lt = by (nat_lt k (length lines)) refl
  where
    by : (b : Bool) → nat_lt k (length lines) ≡ b → P (take k (lines ++ line ∷ [])) (get_or (lines ++ line ∷ []) k d)
    by true e =
        let among : k < length lines = grind (arith, nat_tests) in
        let within : k ≤ length lines = omega arith in
        let front : take k (lines ++ line ∷ []) ≡ take k lines = take-append-le k lines (line ∷ []) within in
        let item : get_or (lines ++ line ∷ []) k d ≡ get_or lines k d = get_or_append_left lines (line ∷ []) d k among in
        subst (λ (ls : List CommandLine). P ls (get_or (lines ++ line ∷ []) k d)) (sym front) (subst (P (take k lines)) (sym item) (before k d among))
    by false e =
        let past : length lines ≤ k = grind (arith, nat_tests) in
        let longer : length (lines ++ line ∷ []) ≡ length lines + 1 = length_push lines line in
        let last : length lines ≡ k = omega arith in
        let front : take k (lines ++ line ∷ []) ≡ lines = take_at lines (line ∷ []) k last in
        let item : get_or (lines ++ line ∷ []) k d ≡ line = get_or_at lines line [] d k last in
        subst (λ (ls : List CommandLine). P ls (get_or (lines ++ line ∷ []) k d)) (sym front) (subst (P lines) (sym item) here)

-- the line of a command comes next
next_command : (draft : Draft) (day : DeliveryDay) (line : CommandLine) (read : Reader) → IsDraft draft → draft.has_begun ≡ true
    → day_of_draft draft ≡ Some day → IsCommandLine day draft.zones (caller_names draft.callers) draft.commands line
    → length (all_commands draft.commands) + length line.commands ≤ 262144
    → words_step (reader_of draft) (command_line line) ≡ Some read → Next draft (command_line line) read
next_command draft day line read is begun is_day is_line few step =
    let all : length (all_commands (draft.commands ++ line ∷ [])) ≡ length (all_commands draft.commands) + length line.commands =
    ap length (all_more draft.commands line) ∙ length-append (all_commands draft.commands) line.commands in
    record {
      next = record draft { commands = draft.commands ++ line ∷ [] };
      is_draft = record {
        day = is.day;
        day_first = is.day_first;
        few_zones = is.few_zones;
        zone_names = is.zone_names;
        zones_differ = is.zones_differ;
        few_borders = is.few_borders;
        zones_joined = is.zones_joined;
        borders_differ = is.borders_differ;
        zone_first = is.zone_first;
        few_callers = is.few_callers;
        names_of_callers = is.names_of_callers;
        callers_differ = is.callers_differ;
        begun = is.begun;
        not_begun = λ never. absurd (both_ways (sym begun ∙ never));
        commands = λ other same. each_more (IsCommandLine other draft.zones (caller_names draft.callers)) draft.commands line (is.commands other same)
            (subst (λ (day : DeliveryDay). IsCommandLine day draft.zones (caller_names draft.callers) draft.commands line) (one_day day other (sym is_day ∙ same)) is_line);
        few_commands = omega arith;
      };
      rows = behind (start_rows draft.start) _ _ (command_line line) (behind (map zone_line draft.zones) _ _ (command_line line)
          (behind (map border_line draft.borders) _ _ (command_line line) (behind (map caller_line draft.callers) _ _ (command_line line)
          (behind (begin_rows draft.has_begun) _ _ (command_line line) (map_push command_line draft.commands line)))));
      is_read = sym step ∙ command_taken draft day line begun is_day is.callers_differ is_line few;
    }
  where
    both_ways : true ≡ false → ⊥
    both_ways same = cc

    one_day : (one other : DeliveryDay) → Some one ≡ Some other → one ≡ other
    one_day one other same = cc

-- a clock line comes next
clock_next : (draft : Draft) (read : Reader) (name word : List ℕ) (words : List (List ℕ)) (caller : ℕ) → IsDraft draft → draft.has_begun ≡ true
    → place_of (caller_names draft.callers) name ≡ Some caller → is_word (codes "clock") word ≡ true
    → words_step (reader_of draft) (name ∷ word ∷ words) ≡ Some read
    → clock_step caller (reader_of draft) words ≡ Some read → Next draft (name ∷ word ∷ words) read
unfolding commands_of_line gates_of_words
clock_next draft read name word words caller is begun place clock whole step =
    let k = clock_read caller (reader_of draft) words read step in
    let at = name_at_place (caller_names draft.callers) name caller place in
    let last : last_clock (map (λ name. last_clock_of name draft.commands) (caller_names draft.callers)) caller ≡ last_clock_of name draft.commands =
    get_or-map (λ name. last_clock_of name draft.commands) (caller_names draft.callers) caller [] None at.0 ∙ ap (λ name. last_clock_of name draft.commands) at.1 in
    let gates : List Command = gates_of k.day (last_clock (map (λ name. last_clock_of name draft.commands) (caller_names draft.callers)) caller) k.instant in
    let line : CommandLine = record { caller = name; verb = word; words = words; commands = gates } in
    let count = count_turns (caller_names draft.callers) draft.commands in
    let few : length (all_commands draft.commands) + length gates ≤ 262144 = let h = k.few in omega arith in
    let by_words : gates_of_words k.day (last_clock_of name draft.commands) words ≡ Some gates =
    ap (λ o. o >>= λ word. instant_of word >>= λ instant. Some (gates_of k.day (last_clock_of name draft.commands) instant)) k.only
    ∙ ap (λ o. o >>= λ instant. Some (gates_of k.day (last_clock_of name draft.commands) instant)) k.is
    ∙ ap (λ last. Some (gates_of k.day last k.instant)) (sym last) in
    let stands : commands_of_line k.day draft.zones draft.commands line ≡ Some gates =
    ap (λ b. cond b (gates_of_words k.day (last_clock_of name draft.commands) words) (entry_of_words draft.zones word words)) clock
    ∙ by_words in
    next_command draft k.day line read is begun k.is_day (record { declared = declared_at_place (caller_names draft.callers) name caller place; stands_for = stands }) few whole

-- the line of one command comes next
entry_next : (draft : Draft) (day : DeliveryDay) (read : Reader) (name word : List ℕ) (words : List (List ℕ)) (caller : ℕ) (verb : Verb)
    → IsDraft draft → draft.has_begun ≡ true → day_of_draft draft ≡ Some day
    → place_of (caller_names draft.callers) name ≡ Some caller → verb_of word ≡ Some verb → is_word (codes "clock") word ≡ false
    → words_step (reader_of draft) (name ∷ word ∷ words) ≡ Some read
    → entry_step verb caller (reader_of draft) words ≡ Some read → Next draft (name ∷ word ∷ words) read
unfolding commands_of_line entry_of_words
entry_next draft day read name word words caller verb is begun is_day place is_verb clock whole step =
    let e = entry_read verb caller (reader_of draft) words read step in
    let room = take_read (reader_of draft) caller (e.command ∷ []) read e.taken in
    let line : CommandLine = record { caller = name; verb = word; words = words; commands = e.command ∷ [] } in
    let count = count_turns (caller_names draft.callers) draft.commands in
    let few : length (all_commands draft.commands) + length (e.command ∷ []) ≤ 262144 = omega arith in
    let by_words : entry_of_words draft.zones word words ≡ Some (e.command ∷ []) =
    ap (λ o. o >>= λ verb. command_of verb draft.zones words >>= λ command. Some (command ∷ [])) is_verb
    ∙ ap (λ o. o >>= λ command. Some (command ∷ [])) e.is in
    let stands : commands_of_line day draft.zones draft.commands line ≡ Some (e.command ∷ []) =
    ap (λ b. cond b (gates_of_words day (last_clock_of name draft.commands) words) (entry_of_words draft.zones word words)) clock
    ∙ by_words in
    next_command draft day line read is begun is_day (record { declared = declared_at_place (caller_names draft.callers) name caller place; stands_for = stands }) few whole

-- the day is there once `begin` was read
pub day_by_begin : (draft : Draft) → IsDraft draft → draft.has_begun ≡ true → (start : List ℕ × DeliveryDay) × (draft.start ≡ Some start)
day_by_begin draft is begun = by draft.start refl (is.day_first (is.begun begun))
  where
    by : (start : Option (List ℕ × DeliveryDay)) → draft.start ≡ start → IsSome start → (start : List ℕ × DeliveryDay) × (draft.start ≡ Some start)
    by None e some = absurd (never some)
      where
        never : false ≡ true → ⊥
        never same = cc
    by (Some start) e some = (start, e)

-- a line of commands
command_next : (draft : Draft) (row : List (List ℕ)) (read : Reader) → IsDraft draft → draft.has_begun ≡ true
    → words_step (reader_of draft) row ≡ Some read → Next draft row read
command_next draft row read is begun whole =
    let step = sym (after_begin (reader_of draft) row begun) ∙ whole in
    let c = command_read (reader_of draft) row read step in
    let same : row ≡ c.parts.0 ∷ c.others.0 ∷ c.others.1 =
    first_is row c.parts.0 c.parts.1 c.first ∙ ap (λ (ws : List (List ℕ)). c.parts.0 ∷ ws) (first_is c.parts.1 c.others.0 c.others.1 c.second) in
    let by_verb = sym (command_is (reader_of draft) row c.parts.0 c.parts.1 c.others.0 c.others.1 c.caller c.verb c.first c.second c.is_caller c.is_verb) ∙ step in
    moved draft row _ read same
    (by c.parts.0 c.others.0 c.others.1 c.caller c.verb c.is_caller c.is_verb (ap (words_step (reader_of draft)) (sym same) ∙ whole) by_verb (is_clock c.verb) refl)
  where
    by : (name word : List ℕ) (words : List (List ℕ)) (caller : ℕ) (verb : Verb) → place_of (caller_names draft.callers) name ≡ Some caller → verb_of word ≡ Some verb
        → words_step (reader_of draft) (name ∷ word ∷ words) ≡ Some read → verb_step verb caller (reader_of draft) words ≡ Some read
        → (b : Bool) → is_clock verb ≡ b → Next draft (name ∷ word ∷ words) read
    by name word words caller verb place is_verb whole step true clock =
        clock_next draft read name word words caller is begun place (sym (clock_word word verb is_verb) ∙ clock) whole (sym (clock_is (reader_of draft) words caller verb clock) ∙ step)
    by name word words caller verb place is_verb whole step false clock =
        let start = day_by_begin draft is begun in
        entry_next draft start.0.1 read name word words caller verb is begun (ap (option_map (λ (s : List ℕ × DeliveryDay). s.1)) start.1) place is_verb
        (sym (clock_word word verb is_verb) ∙ clock) whole (sym (entry_is (reader_of draft) words caller verb clock) ∙ step)

-- any line
pub line_next : (draft : Draft) (row : List (List ℕ)) (read : Reader) → IsDraft draft → words_step (reader_of draft) row ≡ Some read → Next draft row read
line_next draft row read is whole = by draft.has_begun refl
  where
    by : (b : Bool) → draft.has_begun ≡ b → Next draft row read
    by true begun = command_next draft row read is begun whole
    by false begun = header_next draft row read is begun whole

-- what lines say that are read
pub record Said (draft : Draft) (rows : List (List (List ℕ))) (read : Reader) : Type 0 where
  pub next : Draft
  pub is_draft : IsDraft next
  pub rows_are : rows_of next ≡ rows_of draft ++ rows
  pub is_read : Some read ≡ Some (reader_of next)

-- lines that are read say what was read
pub said : (rows : List (List (List ℕ))) (draft : Draft) (read : Reader) → IsDraft draft → after_rows (reader_of draft) rows ≡ Some read → Said draft rows read
said [] draft read is reached = record { next = draft; is_draft = is; rows_are = sym (append-nil (rows_of draft)); is_read = sym reached }
said (row ∷ rows) draft read is reached =
    let step = first_step (words_step (reader_of draft) row) (λ r. after_rows r rows) read reached in
    let n = line_next draft row step.0 is step.1 in
    let rest = said rows n.next read n.is_draft (ap (λ (o : Option Reader). o >>= λ r. after_rows r rows) (sym n.is_read) ∙ step.2) in
    record {
      next = rest.next;
      is_draft = rest.is_draft;
      rows_are = rest.rows_are ∙ ap (λ (rs : List (List (List ℕ))). rs ++ rows) n.rows ∙ append_assoc (rows_of draft) (row ∷ []) rows;
      is_read = rest.is_read;
    }

-- the callers at the end
pub callers_at_end : (draft : Draft) → callers_of (reader_of draft) ≡ map (caller_of_line draft.commands) draft.callers
callers_at_end draft =
    let count : length (map (caller_of_line draft.commands) draft.callers) ≡ length (caller_names draft.callers) =
    length-map draft.callers (caller_of_line draft.commands) ∙ sym (length-map draft.callers (λ (c : CallerLine). c.name)) in
    sym (fill_by_all (caller_at (reader_of draft)) (map (caller_of_line draft.commands) draft.callers) (length (caller_names draft.callers)) nobody count each)
  where
    nobody : Caller
    nobody = record { name = []; role = role.Trader; room = 0 }

    no_line : CallerLine
    no_line = record { role = role.Trader; name = [] }

    each : (k : ℕ) → k < length (caller_names draft.callers) → get_or (map (caller_of_line draft.commands) draft.callers) k nobody ≡ caller_at (reader_of draft) k
    each k lt =
        let count : length (caller_names draft.callers) ≡ length draft.callers = length-map draft.callers (λ (c : CallerLine). c.name) in
        let among : k < length draft.callers = omega arith in
        let name : get_or (caller_names draft.callers) k [] ≡ (get_or draft.callers k no_line).name = get_or-map (λ (c : CallerLine). c.name) draft.callers k no_line [] among in
        let is_role : get_or (map (λ (c : CallerLine). c.role) draft.callers) k role.Trader ≡ (get_or draft.callers k no_line).role = get_or-map (λ (c : CallerLine). c.role) draft.callers k no_line role.Trader among in
        let given : get_or (map (given_by draft.commands) (caller_names draft.callers)) k [] ≡ given_by draft.commands (get_or draft.callers k no_line).name =
        get_or-map (given_by draft.commands) (caller_names draft.callers) k [] [] lt ∙ ap (given_by draft.commands) name in
        get_or-map (caller_of_line draft.commands) draft.callers k no_line nobody among
        ∙ sym (λ i. record { name = name i; role = is_role i; room = length (given i) })

-- what the lines say once the day and `begin` are there
abbrev pub contents_of : Draft → (start : List ℕ × DeliveryDay) → Contents
contents_of draft start = record { date = start.0; day = start.1; zones = draft.zones; borders = draft.borders; callers = draft.callers; commands = draft.commands }

-- the session at the end
pub session_at_end : (draft : Draft) (start : List ℕ × DeliveryDay) → draft.start ≡ Some start → draft.has_begun ≡ true
    → session_of (reader_of draft) ≡ Some (session_of_contents (contents_of draft start))
unfolding session_of_contents
session_at_end draft start is_start begun =
    finished (reader_of draft) start.1 start.1.hours draft.zones (map (caller_of_line draft.commands) draft.callers) (map (given_by draft.commands) (caller_names draft.callers))
    (ap (option_map (λ (s : List ℕ × DeliveryDay). s.1)) is_start) begun refl refl (sym (callers_at_end draft)) refl

-- the lines at the end
pub lines_at_end : (draft : Draft) (start : List ℕ × DeliveryDay) → draft.start ≡ Some start → draft.has_begun ≡ true
    → rows_of draft ≡ lines_of_contents (contents_of draft start)
unfolding lines_of_contents
lines_at_end draft start is_start begun =
    λ i. start_rows (is_start i) ++ (map zone_line draft.zones ++ (map border_line draft.borders ++ (map caller_line draft.callers
    ++ (begin_rows (begun i) ++ map command_line draft.commands))))

-- the rules at the end
pub allowed_at_end : (draft : Draft) (start : List ℕ × DeliveryDay) → IsDraft draft → draft.start ≡ Some start → draft.has_begun ≡ true
    → IsAllowed (contents_of draft start)
allowed_at_end draft start is is_start begun = record {
  day = subst (λ (o : Option (List ℕ × DeliveryDay)). IfSome o (λ start. day_of_word start.0 ≡ Some start.1)) is_start is.day;
  some_zone = is.begun begun;
  few_zones = is.few_zones;
  zone_names = is.zone_names;
  zones_differ = is.zones_differ;
  few_borders = is.few_borders;
  zones_joined = is.zones_joined;
  borders_differ = is.borders_differ;
  few_callers = is.few_callers;
  names_of_callers = is.names_of_callers;
  callers_differ = is.callers_differ;
  commands = is.commands start.1 (ap (option_map (λ (s : List ℕ × DeliveryDay). s.1)) is_start);
  few_commands = is.few_commands;
}

-- `begin` was read where there is a session
pub begun_of_session : (reader : Reader) (session : Session) → session_of reader ≡ Some session → reader.has_begun ≡ true
unfolding session_of
begun_of_session reader session is = by reader.day refl
  where
    clash : None ≡ Some session → ⊥
    clash none = cc

    by_test : (day : DeliveryDay) → reader.day ≡ Some day → (b : Bool) → reader.has_begun ≡ b → reader.has_begun ≡ true
    by_test day there true begun = begun
    by_test day there false begun = let h = rw (there, begun) at is in absurd (clash h)

    by : (o : Option DeliveryDay) → reader.day ≡ o → reader.has_begun ≡ true
    by None none = let h = rw none at is in absurd (clash h)
    by (Some day) there = by_test day there reader.has_begun refl
