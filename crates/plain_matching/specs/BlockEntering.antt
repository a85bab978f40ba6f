-- What is asked of the events, and of a block that enters.
use Rattle.std.specs.Prelude.{◌≡◌, ℕ, List}
use Rattle.order_kinds.specs.declared.order.BlockOrder.{BlockOrder}
use Rattle.zone_graph.specs.Graph.{Graph}
use Rattle.market_model.specs.declared.event.Event.{Event}
use Rattle.market_model.specs.declared.setup.Setup.{Setup}
use Rattle.market_model.specs.Grid.{graph_of}
use Rattle.market_model.specs.Orders.{next_name}
use Rattle.market_model.specs.WellFormed.{BlockEnters, IsHistory}

-- a legal history over a graph, in which open blocks are whole
pub record IsHistoryOver (graph : Graph) (events : List Event) : Type 0 where
  pub setup : Setup
  pub over : graph ≡ graph_of setup
  pub history : IsHistory setup events

-- a caller's block can enter after such a history
pub record CanEnterBlock (graph : Graph) (events : List Event) (caller : ℕ) (order : BlockOrder) : Type 0 where
  pub setup : Setup
  pub over : graph ≡ graph_of setup
  pub history : IsHistory setup events
  pub enters : BlockEnters setup events (next_name events order.first) caller order
