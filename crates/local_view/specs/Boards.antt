-- What the views of a board are, and the rooms that they are made over.
use Rattle.std.specs.Prelude.{◌≡◌, ℕ, ◌<◌, ◌≤◌, List, length}
use Rattle.order_kinds.specs.declared.side.Side.{Side}
use Rattle.order_kinds.specs.Contract.{contract_at}
use Rattle.order_kinds.specs.Period.{contract_quarters}
use Rattle.quarter_capacity.specs.Capacity.{most_remaining}
use Rattle.zone_graph.specs.declared.route.Arc.{Arc}
use Rattle.zone_graph.specs.Graph.{border_count}
use Rattle.zone_graph.specs.Rooms.{room_of}
use Rattle.market_model.specs.declared.reply.ViewRow.{ViewRow}
use Rattle.market_model.specs.Board.{BoardState}
use Rattle.market_model.specs.Room.{room}
use Rattle.market_model.specs.View.{view}

-- the view of a part, a side and a zone
abbrev pub view_of : BoardState → (part : ℕ) → Side → (zone : ℕ) → List ViewRow
view_of board part side zone = view board.grid board.events (contract_at board.hour part) side zone

-- rooms are those of a part
pub record AreRoomsOf (board : BoardState) (part : ℕ) (rooms : List (ℕ × ℕ)) : Type 0 where
  pub size : length rooms ≡ border_count board.grid
  pub are : (arc : Arc) → arc.border < border_count board.grid
      → room_of rooms arc ≡ room board.events (contract_quarters (contract_at board.hour part)) arc
  pub most : (arc : Arc) → arc.border < border_count board.grid → room_of rooms arc ≤ most_remaining
