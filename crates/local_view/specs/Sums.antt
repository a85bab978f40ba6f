-- The rows of a view add up to the most that a taker of any quantity at any price can obtain.
use Rattle.std.specs.Prelude.{◌≡◌, ℕ, ◌<◌, ◌⊎◌, List, [], get_or, length, sum_by, Some}
use Rattle.order_kinds.specs.declared.side.Side.{Side}
use Rattle.order_kinds.specs.Contract.{contract_at}
use Rattle.zone_graph.specs.Graph.{zone_count}
use Rattle.market_model.specs.declared.event.Event.{Event}
use Rattle.market_model.specs.declared.reply.ViewRow.{ViewRow}
use Rattle.market_model.specs.declared.setup.Setup.{Setup}
use Rattle.market_model.specs.Board.{BoardState}
use Rattle.market_model.specs.Grid.{graph_of}
use Rattle.market_model.specs.History.{of_hour}
use Rattle.market_model.specs.Lines.{line}
use Rattle.market_model.specs.WellFormed.{IsHistory, IsMarketSetup}
use Rattle.laws_of_views.specs.Views.{bound_shown, zones_viewed}
use Rattle.local_view.specs.Kept.{Views, line_of}
use Rattle.local_view.specs.Rows.{LineRows}

-- the events of a board are those of its hour in a well-formed history of a market over its grid
pub record AreOfHistory (board : BoardState) (setup : Setup) (history : List Event) : Type 0 where
  pub over_grid : graph_of setup ≡ board.grid
  pub is_setup : IsMarketSetup setup
  pub is_history : IsHistory setup history
  pub in_hour : of_hour board.hour history ≡ board.events

-- the most that a taker of any quantity at any price can obtain in a zone of a side of a part: the
-- bound of the zones that are still in reach where its taking ends, of what the orders inside show
abbrev pub most_obtained : BoardState → (part : ℕ) → Side → (zone : ℕ) → ℕ
most_obtained board part side zone =
    let contract = contract_at board.hour part in
    bound_shown board.grid board.events contract side (line board.events contract side) (zones_viewed board.grid board.events contract side zone)

-- the lots of some rows are that many, or all of the 4294967295 that a view asks for
abbrev pub AddUp : BoardState → (part : ℕ) → Side → (zone : ℕ) → List ViewRow → Type 0
AddUp board part side zone rows =
    (sum_by (λ row. row.lots) rows ≡ 4294967295) ⊎ (sum_by (λ row. row.lots) rows ≡ most_obtained board part side zone)

-- so it is with the next rows of each zone of a part and side, where the board's events are those of a
-- well-formed history
pub record NextAddUp (board : BoardState) (part : ℕ) (side : Side) (line : LineRows) : Type 0 where
  pub rows : List (List ViewRow)
  pub is : line.next ≡ Some rows
  pub each : (setup : Setup) (history : List Event) (zone : ℕ) → AreOfHistory board setup history → zone < zone_count board.grid
      → AddUp board part side zone (get_or rows zone [])

-- and of all parts and sides
abbrev pub AllNextAddUp : BoardState → Views → Type 0
AllNextAddUp board views = (part : ℕ) (side : Side) → part < length views.lines → NextAddUp board part side (line_of views part side)
