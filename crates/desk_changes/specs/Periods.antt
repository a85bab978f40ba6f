-- A period whose resting blocks are matched: its first hour, and its rooms.
use Rattle.std.specs.Prelude.{◌≡◌, ℕ, ◌≤◌, List, ◌++◌}
use Rattle.zone_graph.specs.declared.route.Arc.{Arc}
use Rattle.zone_graph.specs.Graph.{Graph, HasArc}
use Rattle.zone_graph.specs.Rooms.{room_of}
use Rattle.block_match.specs.declared.deal.BlockDeal.{BlockDeal}
use Rattle.market_model.specs.declared.event.Event.{Event}
use Rattle.market_model.specs.declared.setup.Setup.{Setup}
use Rattle.market_model.specs.Grid.{graph_of}
use Rattle.market_model.specs.History.{of_hour}
use Rattle.market_model.specs.WellFormed.{IsHistory, IsMarketSetup}
use Rattle.laws_of_joint_commands.specs.ByHour.{hour_events}
use Rattle.laws_of_joint_commands.specs.MatchingBlocks.{ArePeriodDeals, legs_of}
use Rattle.laws_of_joint_commands.specs.PeriodRooms.{period_room}

-- after a well-formed history over a graph the first hour of a period has some events, and the period has some rooms
pub record IsPeriodOf (graph : Graph) (setup : Setup) (history : List Event) (first last : ℕ) (events : List Event) (rooms : List (ℕ × ℕ)) : Type 0 where
  pub over_grid : graph_of setup ≡ graph
  pub is_setup : IsMarketSetup setup
  pub is_history : IsHistory setup history
  pub in_order : first ≤ last
  pub in_hour : of_hour first history ≡ events
  pub has_rooms : (arc : Arc) → HasArc graph arc → room_of rooms arc ≡ period_room (hour_events history) first last arc

-- there is such a history
abbrev pub IsFirstOfPeriod : Graph → (first last : ℕ) → List Event → List (ℕ × ℕ) → Type 0
IsFirstOfPeriod graph first last events rooms = (setup : Setup) × (history : List Event) × IsPeriodOf graph setup history first last events rooms

-- after each such history these are the deals of the period
abbrev pub AreDealsOf : Graph → (first last : ℕ) → List Event → List (ℕ × ℕ) → List BlockDeal → Type 0
AreDealsOf graph first last events rooms deals = (setup : Setup) (history : List Event) → IsPeriodOf graph setup history first last events rooms
    → ArePeriodDeals (graph_of setup) first last (hour_events history) deals

-- and these are the rooms of the period once the legs of the deals stand behind the history
abbrev pub AreRoomsAfter : Graph → (first last : ℕ) → List Event → List (ℕ × ℕ) → List BlockDeal → (after : List (ℕ × ℕ)) → Type 0
AreRoomsAfter graph first last events rooms deals after = (setup : Setup) (history : List Event) → IsPeriodOf graph setup history first last events rooms
    → let legs = legs_of first last deals in IsPeriodOf graph setup (history ++ legs) first last (events ++ legs) after
