-- Which commands are carried out.
use Rattle.std.specs.Prelude.{◌≡◌, ℕ, List, None}
use Rattle.market_model.specs.declared.command.Command.{Command}
use Rattle.market_model.specs.declared.command.Command.TheVariants as command
use Rattle.market_model.specs.declared.event.Event.{Event}
use Rattle.market_model.specs.declared.setup.Setup.{Setup}
use Rattle.market_model.specs.Grid.{graph_of}
use Rattle.market_model.specs.Rules.{naming_refusal, numbers_refusal}
use Rattle.market_model.specs.StateRules.{state_refusal}

-- a command breaks no rule by itself, and none on the state of orders, hours and capacity
pub record IsLetIn (setup : Setup) (events : List Event) (caller : ℕ) (given : Command) : Type 0 where
  pub naming : naming_refusal setup caller given ≡ None
  pub numbers : numbers_refusal given ≡ None
  pub state : state_refusal (graph_of setup) events caller given ≡ None

-- a command enters no order and no block
abbrev pub IsNoEntry : Command → Type 0
IsNoEntry (command.Enter order) = ⊥
IsNoEntry (command.EnterBlock order) = ⊥
IsNoEntry (command.EnterBasket orders) = ⊥
IsNoEntry _ = Unit {0}
