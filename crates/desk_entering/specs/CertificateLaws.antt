-- What the book and the rooms of an hour tell of the certificate of an order, for the market.
use Rattle.std.specs.Prelude.{◌≡◌, ℕ, ◌+◌, ◌≤◌, List, []}
use Rattle.order_kinds.specs.declared.contract.Quarter.{Quarter}
use Rattle.order_kinds.specs.declared.order.Order.{Order}
use Rattle.order_kinds.specs.Period.{contract_quarters}
use Rattle.order_kinds.specs.Side.{opposite}
use Rattle.zone_graph.specs.declared.route.Arc.{Arc}
use Rattle.zone_graph.specs.Graph.{Graph, HasArc}
use Rattle.zone_graph.specs.Rooms.{room_of}
use Rattle.contract_book.specs.declared.resting.Resting.{Resting}
use Rattle.market_model.specs.declared.event.Event.{Event}
use Rattle.market_model.specs.declared.setup.Setup.{Setup}
use Rattle.market_model.specs.Certificate.{bound_of, crossing_inside, room_across}
use Rattle.market_model.specs.Entering.{name_of_next}
use Rattle.market_model.specs.Grid.{graph_of}
use Rattle.market_model.specs.Room.{room}
use Rattle.market_model.specs.WellFormed.{FitAfter, OrderEnters}
use Rattle.laws_of_books.specs.BookOf.{resting_line}
use Rattle.desk_entering.specs.Crossing.{bound_in, crossing_in}

-- no arc of a grid has more room than this
abbrev pub HaveAtMost : (most : ℕ) → Graph → (Arc → ℕ) → Type 0
HaveAtMost most graph room = (arc : Arc) → HasArc graph arc → room arc ≤ most

-- the rooms of events that fit are such ones
abbrev pub RoomsOfEventsFit : Type 0
RoomsOfEventsFit = (setup : Setup) (events : List Event) (quarters : List Quarter) (graph : Graph) (rooms : List (ℕ × ℕ)) → FitAfter setup [] events
    → ((arc : Arc) → HasArc graph arc → room_of rooms arc ≡ room events quarters arc) → HaveAtMost 4294967295 graph (room_of rooms)

-- what crosses of the records of the opposite line is what crosses of the line itself
abbrev pub RecordsTellWhatCrosses : Type 0
RecordsTellWhatCrosses = (events : List Event) (order : Order) (zones : List ℕ)
    → crossing_in order zones (resting_line events order.contract (opposite order.side)) ≡ crossing_inside events order zones

-- so the bound is that of the market, where the rooms are those of the contract
abbrev pub BoundsAreThoseOfTheLine : Type 0
BoundsAreThoseOfTheLine = (graph : Graph) (rooms : List (ℕ × ℕ)) (line : List Resting) (events : List Event) (order : Order) (zones : List ℕ)
    → line ≡ resting_line events order.contract (opposite order.side)
    → ((arc : Arc) → HasArc graph arc → room_of rooms arc ≡ room events (contract_quarters order.contract) arc)
    → bound_in graph (room_of rooms) line order zones
    ≡ crossing_inside events order zones + room_across graph (room events (contract_quarters order.contract)) order.side zones

-- the entry of an order changes neither the opposite line nor the rooms: this is the bound as its
-- taking starts
abbrev pub EntriesLeaveTheBound : Type 0
EntriesLeaveTheBound = (setup : Setup) (events : List Event) (caller : ℕ) (order : Order) (zones : List ℕ) → FitAfter setup [] events
    → OrderEnters setup events (name_of_next events order) caller order
    → crossing_inside events order zones + room_across (graph_of setup) (room events (contract_quarters order.contract)) order.side zones
    ≡ bound_of (graph_of setup) events caller order zones
