-- What each line makes of what was read before it: none where the line is bad.
use Rattle.std.specs.Prelude.{◌≡◌, ℕ, ◌+◌, Bool, true, false, not, ◌&&◌, ◌||◌, ◌==◌, nat_lt, nat_le, List, [], ◌∷◌, ◌++◌, length, map, replicate, get_or, slice_set, is_some, is_none, Option, Some, None, Result, Ok, Err, if◌then◌else◌}
use Rattle.std.specs.List.{list_any, range_with_len}
use Rattle.contract_calendar.specs.Day.{DeliveryDay, day_of}
use Rattle.market_model.specs.declared.command.Command.{Command}
use Rattle.market_model.specs.declared.setup.Caller.{Caller}
use Rattle.market_model.specs.declared.setup.Role.{Role}
use Rattle.market_model.specs.declared.setup.Role.TheVariants as role
use Rattle.market_spelling.specs.Chain.{◌>>=◌}
use Rattle.market_spelling.specs.Dates.{date_of, instant_of}
use Rattle.market_spelling.specs.Words.{heading_of, verb_of, is_name}
use Rattle.market_spelling.specs.declared.words.Heading.{Heading}
use Rattle.market_spelling.specs.declared.words.Heading.TheVariants as heading
use Rattle.market_spelling.specs.declared.words.Verb.{Verb}
use Rattle.market_spelling.specs.declared.words.Verb.TheVariants as verb
use Rattle.command_lines.specs.declared.fault.LineFault.{LineFault}
use Rattle.command_lines.specs.declared.fault.LineFault.TheVariants as line_fault
use Rattle.market_text.specs.declared.reader.Reader.{Reader}
use Rattle.market_text.specs.declared.session.Session.{Session}
use Rattle.command_lines.specs.Clocks.{last_clock, gates_of}
use Rattle.command_lines.specs.CommandLines.{first_word, only_word, command_of}
use Rattle.market_text.specs.Commands.{commands_of, with_commands}
use Rattle.command_lines.specs.Names.{name_at, place_of}

-- before the first line
abbrev pub nothing_read : Reader
nothing_read = record {
  day = None;
  zones = [];
  borders = [];
  callers = [];
  roles = [];
  has_begun = false;
  commands = [];
  clocks = [];
  turns = [];
}

-- what is read after a line, by its step, or `Bad` where it has none; want of memory says nothing
abbrev pub IsStepTo : Option Reader → Reader → Result (Unit {0}) LineFault → Type 0
IsStepTo step read (Ok _) = step ≡ Some read
IsStepTo step read (Err line_fault.Bad) = step ≡ None
IsStepTo step read (Err line_fault.NoMemory) = Unit {0}

-- a line is taken as its step says, or answered as a bad line where it has none
pub record Takes (step : Option Reader) (read : Reader) (result : Result (Unit {0}) LineFault) : Type 0 where
  pub is : IsStepTo step read result

-- the delivery day of a date
unfoldable pub day_of_word : List ℕ → Option DeliveryDay
day_of_word word = do
  date ← date_of word
  Some (day_of date)

-- `day` and a date, once
unfoldable pub take_day : Reader → List (List ℕ) → Option Reader
take_day reader words = do
  word ← only_word words
  if is_none reader.day then taken word else None
  where
    taken : List ℕ → Option Reader
    taken word = do
      day ← day_of_word word
      Some (record reader { day = Some day })

-- a zone comes after the day and before any border or caller, with a name that no zone has yet; there
-- are at most 64
unfoldable pub may_add_zone : Reader → List ℕ → Bool
may_add_zone reader name =
    is_some reader.day && (length reader.borders == 0) && (length reader.callers == 0)
    && nat_lt (length reader.zones) 64 && is_name name && is_none (place_of reader.zones name)

-- `zone` and a name
unfoldable pub take_zone : Reader → List (List ℕ) → Option Reader
take_zone reader words = do
  name ← only_word words
  if may_add_zone reader name then Some (record reader { zones = reader.zones ++ name ∷ [] }) else None

-- the ends of a border are these two zones, in either order
abbrev pub joins_zones : (one other : ℕ) → ℕ × ℕ → Bool
joins_zones one other ends = ((ends.0 == one) && (ends.1 == other)) || ((ends.0 == other) && (ends.1 == one))

-- a border comes before any caller, between two different zones that no border joins yet; there are
-- at most 128
unfoldable pub may_join : Reader → (one other : ℕ) → Bool
may_join reader one other =
    (length reader.callers == 0) && nat_lt (length reader.borders) 128 && not (one == other)
    && not (list_any (joins_zones one other) reader.borders)

-- the two zones of a border that may be declared
unfoldable pub new_ends : Reader → List (List ℕ) → Option (ℕ × ℕ)
new_ends reader words = do
  parts ← first_word words
  last ← only_word parts.1
  one ← place_of reader.zones parts.0
  other ← place_of reader.zones last
  if may_join reader one other then Some (one, other) else None

-- `border` and two zones
unfoldable pub take_border : Reader → List (List ℕ) → Option Reader
take_border reader words = do
  ends ← new_ends reader words
  Some (record reader { borders = reader.borders ++ ends ∷ [] })

-- a caller comes after the zones, with a name that no caller has yet; there are at most 64
unfoldable pub may_add_caller : Reader → List ℕ → Bool
may_add_caller reader name =
    nat_lt 0 (length reader.zones) && nat_lt (length reader.callers) 64 && is_name name
    && is_none (place_of reader.callers name)

-- `trader` or `operator` and a name; the caller has given no command and had no clock line yet
unfoldable pub take_caller : Role → Reader → List (List ℕ) → Option Reader
take_caller role reader words = do
  name ← only_word words
  if may_add_caller reader name then Some (with_name name) else None
  where
    with_name : List ℕ → Reader
    with_name name = record reader {
      callers = reader.callers ++ name ∷ [];
      roles = reader.roles ++ role ∷ [];
      commands = reader.commands ++ [] ∷ [];
      clocks = reader.clocks ++ None ∷ [];
    }

-- `begin`, after the zones
unfoldable pub take_begin : Reader → List (List ℕ) → Option Reader
take_begin reader words =
    if (length words == 0) && nat_lt 0 (length reader.zones) then Some (record reader { has_begun = true }) else None

-- the words after a heading
abbrev pub heading_step : Heading → Reader → List (List ℕ) → Option Reader
heading_step heading.Day reader words = take_day reader words
heading_step heading.Zone reader words = take_zone reader words
heading_step heading.Border reader words = take_border reader words
heading_step heading.Trader reader words = take_caller role.Trader reader words
heading_step heading.Operator reader words = take_caller role.Operator reader words
heading_step heading.Begin reader words = take_begin reader words

-- a line before the commands
unfoldable pub header_step : Reader → List (List ℕ) → Option Reader
header_step reader words = do
  parts ← first_word words
  heading ← heading_of parts.0
  heading_step heading reader parts.1

-- the commands of a line, at most 262144 with those before it
unfoldable pub take_commands : Reader → ℕ → List Command → Option Reader
take_commands reader caller commands =
    if nat_le (length reader.turns + length commands) 262144 then Some (record reader {
      commands = with_commands reader.commands caller commands;
      turns = reader.turns ++ replicate (length commands) caller;
    }) else None

-- the words after a verb that stands for one command
unfoldable pub entry_step : Verb → ℕ → Reader → List (List ℕ) → Option Reader
entry_step verb caller reader words = do
  command ← command_of verb reader.zones words
  take_commands reader caller (command ∷ [])

-- the instant of a clock line, which stands for gates; it is the caller's last one from then on
unfoldable pub clock_step : ℕ → Reader → List (List ℕ) → Option Reader
clock_step caller reader words = do
  word ← only_word words
  day ← reader.day
  instant ← instant_of word
  take_commands (record reader { clocks = slice_set reader.clocks caller (Some instant) }) caller (gates_of day (last_clock reader.clocks caller) instant)

-- the verb of a clock line
abbrev pub is_clock : Verb → Bool
is_clock verb.Clock = true
is_clock _ = false

-- the words after a caller's name and a verb
abbrev pub verb_step : Verb → ℕ → Reader → List (List ℕ) → Option Reader
verb_step verb caller reader words =
    if is_clock verb then clock_step caller reader words else entry_step verb caller reader words

-- the line of a command: the name of a declared caller, a verb, and its words
unfoldable pub command_step : Reader → List (List ℕ) → Option Reader
command_step reader words = do
  parts ← first_word words
  others ← first_word parts.1
  caller ← place_of reader.callers parts.0
  verb ← verb_of others.0
  verb_step verb caller reader others.1

-- a line that counts, by its words
abbrev pub words_step : Reader → List (List ℕ) → Option Reader
words_step reader words = if reader.has_begun then command_step reader words else header_step reader words

-- a caller, whose room is the number of its commands
abbrev pub caller_at : Reader → ℕ → Caller
caller_at reader place = record {
  name = name_at reader.callers place;
  role = get_or reader.roles place role.Trader;
  room = length (commands_of reader.commands place);
}

abbrev pub callers_of : Reader → List Caller
callers_of reader = map (caller_at reader) (range_with_len 0 (length reader.callers))

-- the session, where the day and `begin` were read
unfoldable pub session_of : Reader → Option Session
session_of reader = do
  day ← reader.day
  if reader.has_begun then Some (session day) else None
  where
    session : DeliveryDay → Session
    session day = record {
      setup = record { hours = day.hours; zones = reader.zones; borders = reader.borders; callers = callers_of reader };
      commands = reader.commands;
      turns = reader.turns;
    }
