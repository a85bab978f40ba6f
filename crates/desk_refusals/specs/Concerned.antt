-- Commands that concern one hour alone.
use Rattle.std.specs.Prelude.{◌≡◌, [], ◌∷◌}
use Rattle.market_model.specs.declared.command.Command.{Command}
use Rattle.market_model.specs.Rules.{hours_concerned}
use Rattle.kept_hour.specs.State.{HourState}

-- the hour is the one hour that a command concerns
abbrev pub ConcernsAlone : HourState → Command → Type 0
ConcernsAlone hour given = hours_concerned given ≡ hour.board.hour ∷ []
