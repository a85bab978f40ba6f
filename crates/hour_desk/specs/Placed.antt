-- Where a command is planned: in an hour in which nothing is left to trade, which the command touches alone.
use Rattle.std.specs.Prelude.{◌≡◌, ℕ, [], ◌∷◌, None}
use Rattle.market_model.specs.declared.command.Command.{Command}
use Rattle.market_model.specs.declared.setup.Setup.{Setup}
use Rattle.market_model.specs.Board.{IsBoard}
use Rattle.market_model.specs.Grid.{graph_of}
use Rattle.market_model.specs.Rules.{early_refusal, touched_hours}
use Rattle.market_model.specs.StateRules.{state_refusal}
use Rattle.laws_of_boards.specs.Settled.{IsSettled}
use Rattle.desk_changes.specs.Planned.{IsUnplanned}
use Rattle.desk_changes.specs.State.{HourState}

-- an hour with nothing planned is of a setup's grid, nothing is left to trade in it, and a command touches it alone
pub record IsPlaced (setup : Setup) (hour : HourState) (caller : ℕ) (given : Command) : Type 0 where
  pub over : graph_of setup ≡ hour.board.grid
  pub seven : hour.board.parts ≡ 7
  pub unplanned : IsUnplanned hour
  pub board : IsBoard hour.board
  pub quiet : IsSettled hour.board.grid hour.board.hour hour.settled
  pub alone : touched_hours setup caller given ≡ hour.board.hour ∷ []

-- and no rule refuses the command by itself, nor one on the state of the hour
pub record CanChange (setup : Setup) (hour : HourState) (caller : ℕ) (given : Command) : Type 0 where
  pub placed : IsPlaced setup hour caller given
  pub early : early_refusal setup caller given ≡ None
  pub state : state_refusal (graph_of setup) hour.settled caller given ≡ None
