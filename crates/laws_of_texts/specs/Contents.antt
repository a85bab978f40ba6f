-- What the lines of a session text say, which rules they keep, and for which session they stand.
use Rattle.std.specs.Prelude.{◌≡◌, ℕ, ◌<◌, ◌≤◌, ◌++◌, Bool, ◌&&◌, List, [], ◌∷◌, length, take, map, replicate, get_or, codes, nat_eq, ◌⊎◌, ℤ, Option, Some, None, unwrap_or, if◌then◌else◌}
use Rattle.std.specs.List.{All, AllPairs, Contains, filter, filter_map, flat_map, fold}
use Rattle.std.specs.Cmp.Lexicographic.{pointwise}
use Rattle.zone_graph.specs.Name.{IsName}
use Rattle.contract_calendar.specs.Day.{DeliveryDay}
use Rattle.market_model.specs.declared.command.Command.{Command}
use Rattle.market_model.specs.declared.setup.Caller.{Caller}
use Rattle.market_model.specs.declared.setup.Role.{Role}
use Rattle.market_model.specs.declared.setup.Role.TheVariants as role
use Rattle.market_spelling.specs.Chain.{◌>>=◌}
use Rattle.market_spelling.specs.Dates.{instant_of}
use Rattle.market_spelling.specs.Words.{is_word, verb_of}
use Rattle.market_text.specs.declared.session.Session.{Session}
use Rattle.command_lines.specs.Clocks.{gates_of}
use Rattle.command_lines.specs.CommandLines.{only_word, command_of}
use Rattle.command_lines.specs.Names.{place_of, zone_number}
use Rattle.market_text.specs.Steps.{day_of_word}

-- the line of a caller: what it may do, and its name
pub record CallerLine : Type 0 where
  pub role : Role
  pub name : List ℕ

-- the line of a command: the caller's name, the verb, the words after it, and the commands for which
-- the line stands
pub record CommandLine : Type 0 where
  pub caller : List ℕ
  pub verb : List ℕ
  pub words : List (List ℕ)
  pub commands : List Command

-- what the lines say: the date and the delivery day of that date, the zones' names, the two names of
-- each border, the callers, the commands
pub record Contents : Type 0 where
  pub date : List ℕ
  pub day : DeliveryDay
  pub zones : List (List ℕ)
  pub borders : List (List ℕ × List ℕ)
  pub callers : List CallerLine
  pub commands : List CommandLine

-- the words of each kind of line
abbrev pub day_line : List ℕ → List (List ℕ)
day_line date = codes "day" ∷ date ∷ []

abbrev pub zone_line : List ℕ → List (List ℕ)
zone_line name = codes "zone" ∷ name ∷ []

abbrev pub border_line : List ℕ × List ℕ → List (List ℕ)
border_line names = codes "border" ∷ names.0 ∷ names.1 ∷ []

abbrev pub role_word : Role → List ℕ
role_word role.Trader = codes "trader"
role_word role.Operator = codes "operator"

abbrev pub caller_line : CallerLine → List (List ℕ)
caller_line caller = role_word caller.role ∷ caller.name ∷ []

abbrev pub begin_line : List (List ℕ)
begin_line = codes "begin" ∷ []

abbrev pub command_line : CommandLine → List (List ℕ)
command_line line = line.caller ∷ line.verb ∷ line.words

-- the lines that count, in their order: the day, the zones, the borders, the callers, `begin`, the
-- commands
unfoldable pub lines_of_contents : Contents → List (List (List ℕ))
lines_of_contents contents =
    day_line contents.date
    ∷ (map zone_line contents.zones
    ++ (map border_line contents.borders
    ++ (map caller_line contents.callers
    ++ begin_line ∷ map command_line contents.commands)))

-- the names of the callers
abbrev pub caller_names : List CallerLine → List (List ℕ)
caller_names callers = map (λ caller. caller.name) callers

-- two borders join the same two zones, either way round
abbrev pub IsSamePair : (one other : List ℕ × List ℕ) → Type 0
IsSamePair one other = ((one.0 ≡ other.0) × (one.1 ≡ other.1)) ⊎ ((one.0 ≡ other.1) × (one.1 ≡ other.0))

-- the line of a clock
abbrev pub is_clock_line : CommandLine → Bool
is_clock_line line = is_word (codes "clock") line.verb

-- the line of this caller
abbrev pub is_line_of : List ℕ → CommandLine → Bool
is_line_of name line = pointwise nat_eq name line.caller

-- the instant of a clock line of this caller
abbrev pub clock_of : List ℕ → CommandLine → Option ℤ
clock_of name line =
    if is_line_of name line && is_clock_line line then (only_word line.words >>= instant_of) else None

-- the last of a list, if there is one
abbrev pub last_of : {A : Type 0} → List A → Option A
last_of items = fold (λ _ item. Some item) None items

-- the instant of a caller's last clock line among these lines
unfoldable pub last_clock_of : List ℕ → List CommandLine → Option ℤ
last_clock_of name lines = last_of (filter_map (clock_of name) lines)

-- the gates for which a clock line stands, after the caller's last clock line
unfoldable pub gates_of_words : DeliveryDay → (last : Option ℤ) → List (List ℕ) → Option (List Command)
gates_of_words day last words = do
  word ← only_word words
  instant ← instant_of word
  Some (gates_of day last instant)

-- the one command of another line
unfoldable pub entry_of_words : (zones : List (List ℕ)) → (verb : List ℕ) → List (List ℕ) → Option (List Command)
entry_of_words zones verb_word words = do
  verb ← verb_of verb_word
  command ← command_of verb zones words
  Some (command ∷ [])

-- the commands for which a line stands after the lines before it
unfoldable pub commands_of_line : DeliveryDay → (zones : List (List ℕ)) → (before : List CommandLine) → CommandLine → Option (List Command)
commands_of_line day zones before line =
    if is_clock_line line then gates_of_words day (last_clock_of line.caller before) line.words
    else entry_of_words zones line.verb line.words

-- all commands, in the order of the lines
abbrev pub all_commands : List CommandLine → List Command
all_commands lines = flat_map (λ line. line.commands) lines

-- a line of a declared caller, which stands for its commands
pub record IsCommandLine (day : DeliveryDay) (zones names : List (List ℕ)) (before : List CommandLine) (line : CommandLine) : Type 0 where
  pub declared : Contains names line.caller
  pub stands_for : commands_of_line day zones before line ≡ Some line.commands

-- the rules: a delivery day; 1 to 64 zones, no name twice; at most 128 borders between two different
-- zones that are declared, no two zones joined twice; at most 64 callers, no name twice; each command
-- by a declared caller, at most 262144 commands
pub record IsAllowed (contents : Contents) : Type 0 where
  pub day : day_of_word contents.date ≡ Some contents.day
  pub some_zone : 1 ≤ length contents.zones
  pub few_zones : length contents.zones ≤ 64
  pub zone_names : All IsName contents.zones
  pub zones_differ : AllPairs (λ one other. ¬ (one ≡ other)) contents.zones
  pub few_borders : length contents.borders ≤ 128
  pub zones_joined : All (λ names. Contains contents.zones names.0 × Contains contents.zones names.1 × (¬ (names.0 ≡ names.1))) contents.borders
  pub borders_differ : AllPairs (λ one other. ¬ IsSamePair one other) contents.borders
  pub few_callers : length contents.callers ≤ 64
  pub names_of_callers : All IsName (caller_names contents.callers)
  pub callers_differ : AllPairs (λ one other. ¬ (one ≡ other)) (caller_names contents.callers)
  pub commands : (k : ℕ) (d : CommandLine) → k < length contents.commands
      → IsCommandLine contents.day contents.zones (caller_names contents.callers) (take k contents.commands) (get_or contents.commands k d)
  pub few_commands : length (all_commands contents.commands) ≤ 262144

-- the commands of a caller, in the order of its lines
unfoldable pub given_by : List CommandLine → (name : List ℕ) → List Command
given_by lines name = all_commands (filter (is_line_of name) lines)

-- the number of a caller
abbrev pub caller_number : (names : List (List ℕ)) → List ℕ → ℕ
caller_number names name = unwrap_or (place_of names name) (length names)

-- the caller of each command, in the order of the lines
unfoldable pub turns_of : (names : List (List ℕ)) → List CommandLine → List ℕ
turns_of names lines = flat_map (λ line. replicate (length line.commands) (caller_number names line.caller)) lines

-- a caller, with room for its commands
abbrev pub caller_of_line : List CommandLine → CallerLine → Caller
caller_of_line lines caller = record { name = caller.name; role = caller.role; room = length (given_by lines caller.name) }

-- the numbers of the zones that a border joins
abbrev pub numbers_of : (zones : List (List ℕ)) → List ℕ × List ℕ → ℕ × ℕ
numbers_of zones names = (zone_number zones names.0, zone_number zones names.1)

-- the session for which contents stand
unfoldable pub session_of_contents : Contents → Session
session_of_contents contents = record {
  setup = record {
    hours = contents.day.hours;
    zones = contents.zones;
    borders = map (numbers_of contents.zones) contents.borders;
    callers = map (caller_of_line contents.commands) contents.callers;
  };
  commands = map (given_by contents.commands) (caller_names contents.callers);
  turns = turns_of (caller_names contents.callers) contents.commands;
}
