-- What is read of the header, and of one command after another.
use Rattle.std.proofs.Common.{◌≡◌, ℕ, zero, suc, ◌+◌, ◌<◌, ◌≤◌, ◌==◌, not, nat_le, Bool, true, cond, List, [], ◌∷◌, ◌++◌, length, map, refl, sym, ap, subst, ◌∙◌, arith, add-one, length-append, All, Option, Some}
use Rattle.std.specs.Prelude.{is_some, unwrap_or}
use Rattle.std.specs.Fmt.{digits}
use Rattle.std.specs.List.{list_all, range_with_len}
use Rattle.std.proofs.lemmas.Bool.Decides.{nat_tests}
use Rattle.std.proofs.lemmas.List.Elements.{All-nil, All-cons, All-append, All-weaker}
use Rattle.std.proofs.lemmas.List.FromFn.{map-range_with_len_more}
use Rattle.std.proofs.lemmas.List.Sums.{AllPass-from_list_all}
use Rattle.market_model.specs.declared.command.Command.{Command}
use Rattle.market_spelling.specs.Chain.{◌>>=◌}
use Rattle.market_spelling.specs.Dates.{parts_of_date, date_of_parts, date_of}
use Rattle.market_spelling.specs.Numbers.{digits_value, number_of}
use Rattle.market_spelling.specs.Words.{heading_of, is_name}
use Rattle.market_text.specs.declared.reader.Reader.{Reader}
use Rattle.command_lines.specs.CommandLines.{first_word, only_word, command_of}
use Rattle.market_text.specs.Commands.{with_commands}
use Rattle.command_lines.specs.Names.{place_of}
use Rattle.market_text.specs.Steps.{nothing_read, day_of_word, take_day, may_add_zone, take_zone, may_join, new_ends, take_border, may_add_caller, take_caller, take_begin, header_step, words_step, take_commands}
use Rattle.market_text.specs.Text.{words_of, line_step}
use Rattle.market_text.proofs.StepLemmas.{command_is, entry_is, entry_taken}
use Rattle.laws_of_texts.specs.Lines.{IsLine}
use Rattle.laws_of_texts.proofs.CommandSteps.{after_begin}
use Rattle.laws_of_texts.proofs.Runs.{after_lines, lines_after}
use Rattle.laws_of_texts.proofs.Spelled.{first_found}
use Rattle.load_maker.specs.Lines.{spaced}
use Rattle.load_maker.specs.Session.{header, command_line}
use Rattle.laws_of_texts.proofs.Spaced.{words_of_spaced, spaced_is_line, counts}
use Rattle.laws_of_texts.proofs.Commands.{value_of, caller_names, IsCommand}
use Rattle.laws_of_texts.proofs.Drawn.{IsCommandLine, command_is_read}

-- what was read of the header and of so many commands
pub record IsAfter (commands : ℕ) (reader : Reader) : Type 0 where
  pub day : is_some reader.day ≡ true
  pub begun : reader.has_begun ≡ true
  pub callers : reader.callers ≡ caller_names
  pub turns : length reader.turns ≡ commands

-- what was read of the header
abbrev pub after_header : Reader
after_header = unwrap_or (after_lines nothing_read header) nothing_read

pub record HeaderRead : Type 0 where
  pub reached : after_lines nothing_read header ≡ Some after_header
  pub after : IsAfter 0 after_header

pub header_read : HeaderRead
unfolding digits header line_step header_step heading_of first_word only_word number_of digits_value parts_of_date date_of_parts date_of day_of_word take_day is_name may_add_zone take_zone may_join new_ends take_border may_add_caller take_caller take_begin
header_read = record { reached = refl; after = record { day = refl; begun = refl; callers = refl; turns = refl } }

-- the lines of the header have no line feeds
abbrev is_no_line_feed : ℕ → Bool
is_no_line_feed byte = not (byte == 10)

abbrev is_line : List ℕ → Bool
is_line line = list_all is_no_line_feed line

no_line_feed : (byte : ℕ) → is_no_line_feed byte ≡ true → ¬ (byte ≡ 10)
no_line_feed byte passes = λ ten. grind (arith, nat_tests)

line_from_test : (line : List ℕ) → is_line line ≡ true → IsLine line
line_from_test line passes =
    All-weaker (λ byte. is_no_line_feed byte ≡ true) (λ byte. ¬ (byte ≡ 10)) no_line_feed line (AllPass-from_list_all is_no_line_feed line passes)

header_are_lines : All IsLine header
unfolding digits header
header_are_lines = All-weaker (λ line. is_line line ≡ true) IsLine line_from_test header (AllPass-from_list_all is_line header refl)

-- with a command more
abbrev with_command : Reader → (caller : ℕ) → Command → Reader
with_command reader caller command = record reader {
  commands = with_commands reader.commands caller (command ∷ []);
  turns = reader.turns ++ caller ∷ [];
}

-- a command is taken where there is room
taken : (reader : Reader) (caller : ℕ) (command : Command) → length reader.turns < 262144
    → take_commands reader caller (command ∷ []) ≡ Some (with_command reader caller command)
unfolding take_commands
taken reader caller command few =
    let fits : nat_le (length reader.turns + length (command ∷ [])) 262144 ≡ true = grind (arith, nat_tests) in
    rw fits refl

-- the words of a command
words_taken : (reader : Reader) (name verb_word : List ℕ) (words : List (List ℕ)) (is : IsCommand name verb_word words) (command : Command)
    → reader.has_begun ≡ true → reader.callers ≡ caller_names → length reader.turns < 262144
    → command_of is.verb reader.zones words ≡ Some command
    → words_step reader (name ∷ verb_word ∷ words) ≡ Some (with_command reader is.caller command)
words_taken reader name verb_word words is command begun callers few found =
    after_begin reader (name ∷ verb_word ∷ words) begun
    ∙ command_is reader (name ∷ verb_word ∷ words) name (verb_word ∷ words) verb_word words is.caller is.verb
    (first_found name (verb_word ∷ words)) (first_found verb_word words)
    (ap (λ (names : List (List ℕ)). place_of names name) callers ∙ is.declared) is.is_verb
    ∙ entry_is reader words is.caller is.verb is.no_clock
    ∙ entry_taken is.verb is.caller reader words command (command ∷ []) found refl
    ∙ taken reader is.caller command few

-- a line that counts, by its words
line_by_words : (reader : Reader) (name verb_word : List ℕ) (words : List (List ℕ)) (read : Reader)
    → words_of (spaced ((116 ∷ name) ∷ verb_word ∷ words)) ≡ (116 ∷ name) ∷ verb_word ∷ words
    → words_step reader ((116 ∷ name) ∷ verb_word ∷ words) ≡ Some read
    → line_step reader (spaced ((116 ∷ name) ∷ verb_word ∷ words)) ≡ Some read
unfolding line_step
line_by_words reader name verb_word words read are step =
    ap (λ passed. cond passed (Some reader) (words_step reader (words_of (spaced ((116 ∷ name) ∷ verb_word ∷ words)))))
    (counts (name ++ 32 ∷ spaced (verb_word ∷ words)))
    ∙ ap (words_step reader) are ∙ step

-- what one command more makes of what was read
pub record Next (commands : ℕ) (reader : Reader) (line : List ℕ) : Type 0 where
  pub read : Reader
  pub step : line_step reader line ≡ Some read
  pub after : IsAfter (commands + 1) read

line_taken : (commands : ℕ) (reader : Reader) (line : List ℕ) → IsAfter commands reader → commands < 262144 → IsCommandLine line
    → Next commands reader line
line_taken commands reader line after few is =
    let command = value_of (command_of is.command.verb reader.zones is.words) (is.command.found reader.zones) in
    let room : length reader.turns < 262144 = omega (arith, after.turns) in
    let count : length (reader.turns ++ is.command.caller ∷ []) ≡ commands + 1 =
    omega (arith, after.turns, length-append reader.turns (is.command.caller ∷ [])) in
    record {
      read = with_command reader is.command.caller command.0;
      step = ap (line_step reader) is.laid_out
          ∙ line_by_words reader is.name is.verb_word is.words (with_command reader is.command.caller command.0)
          (words_of_spaced (116 ∷ is.name) (is.verb_word ∷ is.words) is.plain)
          (words_taken reader (116 ∷ is.name) is.verb_word is.words is.command command.0 after.begun after.callers room command.1);
      after = record { day = after.day; begun = after.begun; callers = after.callers; turns = count };
    }

-- what so many commands make of it
pub record AfterCommands (commands : ℕ) : Type 0 where
  pub read : Reader
  pub reached : after_lines after_header (map command_line (range_with_len 0 commands)) ≡ Some read
  pub after : IsAfter commands read

one_more : (commands : ℕ)
    → map command_line (range_with_len 0 (suc commands)) ≡ map command_line (range_with_len 0 commands) ++ command_line commands ∷ []
one_more commands =
    ap (λ n. map command_line (range_with_len 0 n)) (sym (add-one commands))
    ∙ map-range_with_len_more command_line 0 commands commands (omega arith)

pub commands_read : (commands : ℕ) → commands ≤ 262144 → AfterCommands commands
commands_read zero few = record { read = after_header; reached = refl; after = header_read.after }
commands_read (suc commands) few =
    let before = commands_read commands (omega arith) in
    let next = line_taken commands before.read (command_line commands) before.after (omega arith) (command_is_read commands) in
    let count : length next.read.turns ≡ suc commands = omega (arith, next.after.turns) in
    record {
      read = next.read;
      reached = ap (after_lines after_header) (one_more commands)
          ∙ lines_after (map command_line (range_with_len 0 commands)) (command_line commands ∷ []) after_header before.read before.reached
          ∙ ap (λ (o : Option Reader). o >>= λ read. after_lines read []) next.step;
      after = record { day = next.after.day; begun = next.after.begun; callers = next.after.callers; turns = count };
    }

-- the lines of the commands have no line feeds
command_is_line : (place : ℕ) → IsLine (command_line place)
command_is_line place =
    let is = command_is_read place in
    subst IsLine (sym is.laid_out) (spaced_is_line (116 ∷ is.name) (is.verb_word ∷ is.words) is.plain)

commands_are_lines : (commands : ℕ) → All IsLine (map command_line (range_with_len 0 commands))
commands_are_lines zero = All-nil IsLine
commands_are_lines (suc commands) =
    subst (All IsLine) (sym (one_more commands))
    (All-append IsLine (map command_line (range_with_len 0 commands)) (command_line commands ∷ []) (commands_are_lines commands)
    (All-cons IsLine (command_line commands) [] (command_is_line commands) (All-nil IsLine)))

-- the lines of the text
pub are_lines : (commands : ℕ) → All IsLine (header ++ map command_line (range_with_len 0 commands))
are_lines commands = All-append IsLine header (map command_line (range_with_len 0 commands)) header_are_lines (commands_are_lines commands)
