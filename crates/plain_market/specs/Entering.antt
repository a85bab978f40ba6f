-- Orders that can enter.
use Rattle.std.specs.Prelude.{◌≡◌, ◌⊎◌, ℕ, List, [], take, Option, Result, Ok, Some}
use Rattle.order_kinds.specs.declared.order.Order.{Order}
use Rattle.zone_graph.specs.Graph.{Graph}
use Rattle.zone_graph.specs.Route.{IsIn}
use Rattle.zone_graph.specs.declared.memory.NoMemory.{NoMemory}
use Rattle.market_model.specs.declared.event.Event.{Event}
use Rattle.market_model.specs.declared.refusal.Refusal.{Refusal}
use Rattle.market_model.specs.declared.setup.Setup.{Setup}
use Rattle.market_model.specs.Entering.{name_of_next}
use Rattle.market_model.specs.Grid.{graph_of}
use Rattle.market_model.specs.WellFormed.{FitAfter, OrderEnters}

-- after a first part of a legal history over a graph, a caller can enter some orders: each has what
-- it needs to enter, whatever entered before it
pub record CanEnter (graph : Graph) (events : List Event) (caller : ℕ) (orders : List Order) : Type 0 where
  pub setup : Setup
  pub over : graph ≡ graph_of setup
  pub fit : FitAfter setup [] events
  pub each : (before : List Event) (order : Order) → IsIn order orders → OrderEnters setup before (name_of_next before order) caller order

-- where a command is refused, the history is as before
abbrev pub StaysWhereRefused : Result (Option Refusal) NoMemory → (old new : List Event) → Type 0
StaysWhereRefused result old new = (refusal : Refusal) → result ≡ Ok (Some refusal) → new ≡ old

-- a history is as before, or only so many of its first events are left
abbrev pub IsCut : (count : ℕ) → (old new : List Event) → Type 0
IsCut count old new = (new ≡ old) ⊎ (new ≡ take count old)
