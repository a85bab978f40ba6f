-- Which steps the lines of commands make.
use Rattle.std.proofs.Common.{◌≡◌, ℕ, ℤ, ◌+◌, ◌≤◌, ◌&&◌, nat_le, Bool, true, false, cond, List, [], ◌∷◌, ◌++◌, length, map, replicate, refl, sym, ap, ◌∙◌, arith, Option, Some, None}
use Rattle.std.specs.Prelude.{slice_set, unwrap_or}
use Rattle.std.specs.List.{AllPairs}
use Rattle.std.proofs.lemmas.Bool.Decides.{nat_tests}
use Rattle.std.proofs.lemmas.List.{get_or-map}
use Rattle.contract_calendar.specs.Day.{DeliveryDay}
use Rattle.market_model.specs.declared.command.Command.{Command}
use Rattle.market_spelling.specs.Chain.{◌>>=◌}
use Rattle.market_spelling.specs.Dates.{instant_of}
use Rattle.market_spelling.specs.Words.{verb_of}
use Rattle.market_spelling.specs.declared.words.Verb.{Verb}
use Rattle.market_spelling.specs.declared.words.Verb.TheVariants as verb
use Rattle.market_text.specs.declared.reader.Reader.{Reader}
use Rattle.command_lines.specs.Clocks.{gates_of, last_clock}
use Rattle.command_lines.specs.CommandLines.{only_word, command_of}
use Rattle.market_text.specs.Commands.{commands_of, with_commands}
use Rattle.command_lines.specs.Names.{place_of}
use Rattle.market_text.specs.Steps.{words_step, header_step, command_step, clock_step, is_clock, take_commands}
use Rattle.market_text.proofs.StepLemmas.{command_is, clock_is, entry_is, entry_taken}
use Rattle.laws_of_texts.specs.Contents.{CommandLine, IsCommandLine, command_line, caller_names, caller_number, is_clock_line, is_line_of, clock_of, last_clock_of, gates_of_words, entry_of_words, commands_of_line, all_commands, given_by, turns_of}
use Rattle.laws_of_texts.proofs.Drafts.{Draft, reader_of, day_of_draft, given_more, given_same, last_more, last_same, turns_more, count_turns}
use Rattle.laws_of_texts.proofs.Places.{place_of_declared, other_fails, same_passes, one_changed, name_at_place}
use Rattle.laws_of_texts.proofs.Runs.{first_step}
use Rattle.laws_of_texts.proofs.Spelled.{first_found, clock_found, clock_word}

-- a line after `begin`
pub after_begin : (reader : Reader) (row : List (List ℕ)) → reader.has_begun ≡ true → words_step reader row ≡ command_step reader row
after_begin reader row begun = ap (λ b. cond b (command_step reader row) (header_step reader row)) begun

-- commands that are taken
take_step : (reader : Reader) (caller : ℕ) (commands : List Command) → length reader.turns + length commands ≤ 262144
    → take_commands reader caller commands ≡ Some (record reader { commands = with_commands reader.commands caller commands; turns = reader.turns ++ replicate (length commands) caller })
unfolding take_commands
take_step reader caller commands few =
    let room : nat_le (length reader.turns + length commands) 262144 ≡ true = grind (arith, nat_tests) in
    rw room refl

-- the line of a clock
pub record IsClock (day : DeliveryDay) (last : Option ℤ) (words : List (List ℕ)) (commands : List Command) : Type 0 where
  pub word : List ℕ
  pub only : only_word words ≡ Some word
  pub instant : ℤ
  pub read : instant_of word ≡ Some instant
  pub gates : gates_of day last instant ≡ commands

-- the line of one command
pub record IsEntry (zones : List (List ℕ)) (verb_word : List ℕ) (words : List (List ℕ)) (commands : List Command) : Type 0 where
  pub verb : Verb
  pub is_verb : verb_of verb_word ≡ Some verb
  pub command : Command
  pub is_command : command_of verb zones words ≡ Some command
  pub one : command ∷ [] ≡ commands

-- what the commands of a clock line come from
clock_parts : (day : DeliveryDay) (zones : List (List ℕ)) (before : List CommandLine) (line : CommandLine) (commands : List Command)
    → is_clock_line line ≡ true → commands_of_line day zones before line ≡ Some commands
    → IsClock day (last_clock_of line.caller before) line.words commands
unfolding commands_of_line gates_of_words
clock_parts day zones before line commands clock is =
    let gates : gates_of_words day (last_clock_of line.caller before) line.words ≡ Some commands =
    ap (λ b. cond b (gates_of_words day (last_clock_of line.caller before) line.words) (entry_of_words zones line.verb line.words)) (sym clock) ∙ is in
    let word = first_step (only_word line.words) (λ word. instant_of word >>= λ instant. Some (gates_of day (last_clock_of line.caller before) instant)) commands gates in
    let instant = first_step (instant_of word.0) (λ instant. Some (gates_of day (last_clock_of line.caller before) instant)) commands word.2 in
    record { word = word.0; only = word.1; instant = instant.0; read = instant.1; gates = same (gates_of day (last_clock_of line.caller before) instant.0) commands instant.2 }
  where
    same : (one other : List Command) → Some one ≡ Some other → one ≡ other
    same one other is = cc

-- what the command of another line comes from
entry_parts : (day : DeliveryDay) (zones : List (List ℕ)) (before : List CommandLine) (line : CommandLine) (commands : List Command)
    → is_clock_line line ≡ false → commands_of_line day zones before line ≡ Some commands
    → IsEntry zones line.verb line.words commands
unfolding commands_of_line entry_of_words
entry_parts day zones before line commands clock is =
    let entry : entry_of_words zones line.verb line.words ≡ Some commands =
    ap (λ b. cond b (gates_of_words day (last_clock_of line.caller before) line.words) (entry_of_words zones line.verb line.words)) (sym clock) ∙ is in
    let verb = first_step (verb_of line.verb) (λ verb. command_of verb zones line.words >>= λ command. Some (command ∷ [])) commands entry in
    let command = first_step (command_of verb.0 zones line.words) (λ command. Some (command ∷ [])) commands verb.2 in
    record { verb = verb.0; is_verb = verb.1; command = command.0; is_command = command.1; one = same (command.0 ∷ []) commands command.2 }
  where
    same : (one other : List Command) → Some one ≡ Some other → one ≡ other
    same one other is = cc

-- the step of a clock line
clock_taken : (caller : ℕ) (reader : Reader) (day : DeliveryDay) (last : Option ℤ) (words : List (List ℕ)) (commands : List Command)
    → (is : IsClock day last words commands) → reader.day ≡ Some day → last_clock reader.clocks caller ≡ last
    → length reader.turns + length commands ≤ 262144
    → clock_step caller reader words ≡ Some (record reader {
      clocks = slice_set reader.clocks caller (Some is.instant);
      commands = with_commands reader.commands caller commands;
      turns = reader.turns ++ replicate (length commands) caller;
    })
unfolding clock_step
clock_taken caller reader day last words commands is is_day is_last few =
    ap (λ o. o >>= λ word. reader.day >>= λ day. instant_of word >>= λ instant. taken day instant) is.only
    ∙ ap (λ o. o >>= λ day. instant_of is.word >>= λ instant. taken day instant) is_day
    ∙ ap (λ o. o >>= λ instant. taken day instant) is.read
    ∙ ap (λ last. take_commands clocked caller (gates_of day last is.instant)) is_last
    ∙ ap (take_commands clocked caller) is.gates
    ∙ take_step clocked caller commands few
  where
    taken : DeliveryDay → ℤ → Option Reader
    taken day instant = take_commands (record reader { clocks = slice_set reader.clocks caller (Some instant) }) caller (gates_of day (last_clock reader.clocks caller) instant)

    clocked : Reader
    clocked = record reader { clocks = slice_set reader.clocks caller (Some is.instant) }

-- the commands of the callers with one line more
commands_more : (names : List (List ℕ)) (lines : List CommandLine) (line : CommandLine) (place : ℕ)
    → AllPairs (λ one other. ¬ (one ≡ other)) names → place_of names line.caller ≡ Some place
    → with_commands (map (given_by lines) names) place line.commands ≡ map (given_by (lines ++ line ∷ [])) names
commands_more names lines line place differ is =
    let at = name_at_place names line.caller place is in
    let own : commands_of (map (given_by lines) names) place ≡ given_by lines line.caller =
    get_or-map (given_by lines) names place [] [] at.0 ∙ ap (given_by lines) at.1 in
    ap (λ (given : List Command). slice_set (map (given_by lines) names) place (given ++ line.commands)) own
    ∙ sym (one_changed names line.caller place (given_by lines) (given_by (lines ++ line ∷ [])) (given_by lines line.caller ++ line.commands) differ is
    (given_more lines line line.caller (same_passes line.caller))
    (λ other apart. given_same lines line other (other_fails other line.caller (λ same. apart (sym same)))))

-- the last clock lines of the callers with a clock line more
clocks_more : (names : List (List ℕ)) (lines : List CommandLine) (line : CommandLine) (place : ℕ) (word : List ℕ) (instant : ℤ)
    → AllPairs (λ one other. ¬ (one ≡ other)) names → place_of names line.caller ≡ Some place
    → is_clock_line line ≡ true → only_word line.words ≡ Some word → instant_of word ≡ Some instant
    → slice_set (map (λ name. last_clock_of name lines) names) place (Some instant) ≡ map (λ name. last_clock_of name (lines ++ line ∷ [])) names
clocks_more names lines line place word instant differ is clock only read =
    let own : clock_of line.caller line ≡ Some instant =
    ap (λ b. cond (b && is_clock_line line) (only_word line.words >>= instant_of) None) (same_passes line.caller)
    ∙ ap (λ b. cond b (only_word line.words >>= instant_of) None) clock
    ∙ ap (λ o. o >>= instant_of) only ∙ read in
    sym (one_changed names line.caller place (λ name. last_clock_of name lines) (λ name. last_clock_of name (lines ++ line ∷ [])) (Some instant) differ is
    (last_more lines line line.caller instant own)
    (λ other apart. last_same lines line other (none other apart)))
  where
    none : (other : List ℕ) → (¬ (other ≡ line.caller)) → clock_of other line ≡ None
    none other apart =
        ap (λ b. cond (b && is_clock_line line) (only_word line.words >>= instant_of) None) (other_fails other line.caller (λ same. apart (sym same)))

-- with another line more
clocks_same : (names : List (List ℕ)) (lines : List CommandLine) (line : CommandLine) → is_clock_line line ≡ false
    → map (λ name. last_clock_of name lines) names ≡ map (λ name. last_clock_of name (lines ++ line ∷ [])) names
clocks_same names lines line other = λ i. map (λ name. sym (each name) i) names
  where
    by : (b : Bool) → cond (b && false) (only_word line.words >>= instant_of) None ≡ None
    by true = refl
    by false = refl

    each : (name : List ℕ) → last_clock_of name (lines ++ line ∷ []) ≡ last_clock_of name lines
    each name = last_same lines line name
        (ap (λ b. cond (is_line_of name line && b) (only_word line.words >>= instant_of) None) other ∙ by (is_line_of name line))

-- a line of commands is taken
pub command_taken : (draft : Draft) (day : DeliveryDay) (line : CommandLine) → draft.has_begun ≡ true → day_of_draft draft ≡ Some day
    → AllPairs (λ one other. ¬ (one ≡ other)) (caller_names draft.callers)
    → IsCommandLine day draft.zones (caller_names draft.callers) draft.commands line
    → length (all_commands draft.commands) + length line.commands ≤ 262144
    → words_step (reader_of draft) (command_line line) ≡ Some (reader_of (record draft { commands = draft.commands ++ line ∷ [] }))
command_taken draft day line begun is_day differ is few =
    after_begin reader (command_line line) begun ∙ by (is_clock_line line) refl
  where
    reader : Reader
    reader = reader_of draft

    names : List (List ℕ)
    names = caller_names draft.callers

    place : (place : ℕ) × (place_of names line.caller ≡ Some place)
    place = place_of_declared names line.caller is.declared

    room : length reader.turns + length line.commands ≤ 262144
    room = let count = count_turns names draft.commands in omega (arith, count)

    turns : turns_of names draft.commands ++ replicate (length line.commands) place.0 ≡ turns_of names (draft.commands ++ line ∷ [])
    turns =
        let number : caller_number names line.caller ≡ place.0 = ap (λ o. unwrap_or o (length names)) place.1 in
        ap (λ (caller : ℕ). turns_of names draft.commands ++ replicate (length line.commands) caller) (sym number) ∙ sym (turns_more names draft.commands line)

    commands : with_commands reader.commands place.0 line.commands ≡ map (given_by (draft.commands ++ line ∷ [])) names
    commands = commands_more names draft.commands line place.0 differ place.1

    last : last_clock reader.clocks place.0 ≡ last_clock_of line.caller draft.commands
    last =
        let at = name_at_place names line.caller place.0 place.1 in
        get_or-map (λ name. last_clock_of name draft.commands) names place.0 [] None at.0 ∙ ap (λ name. last_clock_of name draft.commands) at.1

    by : (b : Bool) → is_clock_line line ≡ b → command_step reader (command_line line) ≡ Some (reader_of (record draft { commands = draft.commands ++ line ∷ [] }))
    by true clock =
        let parts = clock_parts day draft.zones draft.commands line line.commands clock is.stands_for in
        let clocks = clocks_more names draft.commands line place.0 parts.word parts.instant differ place.1 clock parts.only parts.read in
        command_is reader (command_line line) line.caller (line.verb ∷ line.words) line.verb line.words place.0 verb.Clock
        (first_found line.caller (line.verb ∷ line.words)) (first_found line.verb line.words) place.1 (clock_found line.verb clock)
        ∙ clock_is reader line.words place.0 verb.Clock refl
        ∙ clock_taken place.0 reader day (last_clock_of line.caller draft.commands) line.words line.commands parts is_day last room
        ∙ (λ i. Some (record reader { clocks = clocks i; commands = commands i; turns = turns i }))
    by false clock =
        let parts = entry_parts day draft.zones draft.commands line line.commands clock is.stands_for in
        let other : is_clock parts.verb ≡ false = clock_word line.verb parts.verb parts.is_verb ∙ clock in
        let clocks = clocks_same names draft.commands line clock in
        command_is reader (command_line line) line.caller (line.verb ∷ line.words) line.verb line.words place.0 parts.verb
        (first_found line.caller (line.verb ∷ line.words)) (first_found line.verb line.words) place.1 parts.is_verb
        ∙ entry_is reader line.words place.0 parts.verb other
        ∙ entry_taken parts.verb place.0 reader line.words parts.command line.commands parts.is_command (sym parts.one)
        ∙ take_step reader place.0 line.commands room
        ∙ (λ i. Some (record reader { clocks = clocks i; commands = commands i; turns = turns i }))
