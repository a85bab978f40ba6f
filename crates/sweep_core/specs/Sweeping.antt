-- What a sweep makes of a board.
use Rattle.std.specs.Prelude.{◌≡◌, ℕ, ◌<◌, ◌≤◌, Bool, false, ◌==◌, List, [], ◌∷◌, ◌++◌, length, take, Option, Some, None, IfSome}
use Rattle.std.specs.List.{list_any}
use Rattle.order_kinds.specs.declared.side.Side.TheVariants.{Buy, Sell}
use Rattle.order_kinds.specs.Contract.{contract_at}
use Rattle.zone_graph.specs.declared.route.Arc.{Arc}
use Rattle.zone_graph.specs.Graph.{Graph, border_count}
use Rattle.zone_graph.specs.Pour.{opposite_arc}
use Rattle.zone_graph.specs.Route.{IsIn}
use Rattle.market_model.specs.declared.event.Event.{Event}
use Rattle.market_model.specs.declared.event.Event.TheVariants as event
use Rattle.market_model.specs.declared.event.Leg.{Leg}
use Rattle.market_model.specs.Board.{BoardState, IsBoard, with_events}
use Rattle.market_model.specs.Lines.{can_trade, line, rooms_for}
use Rattle.market_model.specs.Orders.{Standing}
use Rattle.market_model.specs.Sweep.{all_parts, first_answer, leg_in, sweep, sweep_leg}
use Rattle.sweep_core.specs.declared.part_set.PartSet.{PartSet}
use Rattle.sweep_core.specs.declared.parts.PartLeg.{PartLeg}
use Rattle.sweep_core.specs.Meeting.{part_room}
use Rattle.sweep_core.specs.Parts.{has_part}

-- the leg of a part of the hour
abbrev pub part_leg : BoardState → (part : ℕ) → Option Event
part_leg board part = leg_in board.grid board.events (contract_at board.hour part)

-- the parts that are not in a set have no leg
abbrev pub OthersAreQuiet : BoardState → PartSet → Type 0
OthersAreQuiet board set = (part : ℕ) → part < 7 → has_part set part ≡ false → part_leg board part ≡ None

-- the legs of the hour's sweep
abbrev pub hour_sweep : BoardState → List Event
hour_sweep board = sweep all_parts board.grid board.hour board.events

-- the board after them
abbrev pub swept : BoardState → BoardState
swept board = with_events board (board.events ++ hour_sweep board)

-- the board after the first of them, so many
abbrev pub IsSweptInPart : (before after : BoardState) → Type 0
IsSweptInPart before after = (count : ℕ) × (after ≡ with_events before (before.events ++ take count (hour_sweep before)))

-- no part of the hour has a leg, and no two of its resting orders can trade
pub record NothingTrades (board : BoardState) : Type 0 where
  pub no_leg : (part : ℕ) → part < 7 → part_leg board part ≡ None
  pub no_pair : (part : ℕ) (buy sell : Standing) → part < 7
      → IsIn buy (line board.events (contract_at board.hour part) Buy) → IsIn sell (line board.events (contract_at board.hour part) Sell)
      → can_trade board.grid (rooms_for board.events buy) buy sell ≡ false

-- a board is one to be swept: over a grid, in an hour, with all its parts and no order in hand
pub record IsToBeSwept (graph : Graph) (hour : ℕ) (board : BoardState) : Type 0 where
  pub over_grid : graph ≡ board.grid
  pub in_hour : hour ≡ board.hour
  pub has_parts : 7 ≤ board.parts
  pub no_hand : board.hand ≡ None

-- a leg of a part, as an event
abbrev pub event_in : BoardState → (part : ℕ) → Leg → Event
event_in board part leg = event.Leg (contract_at board.hour part) leg

abbrev pub leg_event : BoardState → PartLeg → Event
leg_event board next = event_in board next.part next.leg

-- the numbers of the parts in the order in which a sweep tries them
abbrev pub order_numbers : List ℕ
order_numbers = 0 ∷ 5 ∷ 6 ∷ 1 ∷ 2 ∷ 3 ∷ 4 ∷ []

-- the leg of the first of some parts that has one
abbrev pub first_leg : BoardState → List ℕ → Option Event
first_leg board numbers = first_answer (part_leg board) numbers

-- the next leg of the hour's sweep
abbrev pub next_event : BoardState → Option Event
next_event board = sweep_leg all_parts board.grid board.hour board.events

-- an arc of a route may give the opposite one its first room
abbrev pub may_open : (Arc → ℕ) → List Arc → Bool
may_open room route = list_any (λ arc. room (opposite_arc arc) == 0) route

-- the rooms of the arcs of a grid, where they are there
abbrev pub AreSized : Graph → Option (List (ℕ × ℕ)) → Type 0
AreSized graph rooms = IfSome rooms (λ row. length row ≡ border_count graph)

-- the leg of its part, which tells whether it may give an arc its first room
pub record IsFoundIn (board : BoardState) (found : PartLeg) : Type 0 where
  pub stands : IsBoard board
  pub is : part_leg board found.part ≡ Some (leg_event board found)
  pub opens : found.opens ≡ may_open (part_room board found.part) found.leg.route

-- the next leg of a sweep
pub record IsNext (board : BoardState) (next : PartLeg) : Type 0 where
  pub part : next.part < 7
  pub found : IsFoundIn board next
  pub is : next_event board ≡ Some (leg_event board next)
