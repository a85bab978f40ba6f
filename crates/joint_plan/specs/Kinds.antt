-- Kinds of commands.
use Rattle.market_model.specs.declared.command.Command.{Command}
use Rattle.market_model.specs.declared.command.Command.TheVariants as command
use Rattle.hour_desk.specs.Ranges.{IsOverRange}

-- a command can touch several hours together: it is over a range, or of blocks
abbrev pub IsJoint : Command → Type 0
IsJoint (command.Blocks first last) = Unit {0}
IsJoint (command.EnterBlock order) = Unit {0}
IsJoint given = IsOverRange given

-- a command is no basket
abbrev pub IsNoBasket : Command → Type 0
IsNoBasket (command.EnterBasket orders) = ⊥
IsNoBasket _ = Unit {0}
