-- What the parser of command lines makes of the words.
use Rattle.std.specs.Prelude.{true, List, codes, Option, Some, None, if◌then◌else◌}
use Rattle.std.specs.Option.{option_and_then, option_map}
use Rattle.std.specs.Str.{bytes_eq}
use Rattle.clap.specs.Words.{App, Row, Text, first_of, new_app, new_rule, with_rule, with_subcommand}
use Rattle.clap.specs.Simple.{on_top}
use Rattle.command_words.specs.Words.{count_of, task_of_word}
use Rattle.command_words.specs.declared.words.Task.{Task}
use Rattle.command_words.specs.declared.words.Task.TheVariants as task

-- the word `replay`, with nothing behind it
abbrev pub replay : App
replay = new_app (codes "replay")

-- the word `generate`, with a number of commands behind it
abbrev pub generate : App
generate = with_rule (new_app (codes "generate")) (record (new_rule (codes "N")) { required = true })

-- a command line with these words, and no options
abbrev pub session_words : App
session_words = with_subcommand (with_subcommand top replay.top) generate.top
  where
    top : App
    top = on_top (λ shape. record shape { no_binary_name = true; disable_help_flag = true; disable_help_subcommand = true }) (new_app (codes "sidc"))

-- the words `audit` and `ship`, with nothing behind them
abbrev pub audit : App
audit = new_app (codes "audit")

abbrev pub ship : App
ship = new_app (codes "ship")

abbrev pub with_record_words : App → App
with_record_words line = with_subcommand (with_subcommand line audit.top) ship.top

-- the words `store` and `recover`, with nothing behind them
abbrev pub store : App
store = new_app (codes "store")

abbrev pub recover : App
recover = new_app (codes "recover")

abbrev pub with_disk_words : App → App
with_disk_words line = with_subcommand (with_subcommand line store.top) recover.top

-- the command line of the program
abbrev pub program : App
program = with_disk_words (with_record_words session_words)

-- what the matches ask for, if they ask for anything
abbrev pub task_matched : Option (Text × List Row) → Option Task
task_matched None = None
task_matched (Some (name, rows)) =
    if bytes_eq name (codes "generate") then option_map task.Generate (option_and_then count_of (first_of (codes "N") rows))
    else task_of_word name
