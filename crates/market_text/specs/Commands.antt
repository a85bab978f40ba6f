-- The commands of each caller.
use Rattle.std.specs.Prelude.{ℕ, List, [], ◌++◌, slice_set, get_or}
use Rattle.market_model.specs.declared.command.Command.{Command}

-- the commands of the caller at this place
abbrev pub commands_of : List (List Command) → ℕ → List Command
commands_of lists caller = get_or lists caller []

-- the same lists, where the caller at this place has these commands more, its last
abbrev pub with_commands : List (List Command) → ℕ → List Command → List (List Command)
with_commands lists caller commands = slice_set lists caller (commands_of lists caller ++ commands)
