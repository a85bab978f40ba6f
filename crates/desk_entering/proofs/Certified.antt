-- The certificate of an order that is not filled, from the book and the rooms of its hour.
use Rattle.std.proofs.Common.{◌≡◌, ◌∙◌, ℕ, ◌+◌, ◌<◌, true, List, [], ◌∷◌, Result, Ok, Err, IfOk, refl, sym, ap, ap₂, subst, arith}
use Rattle.order_kinds.specs.declared.contract.Contract.{Contract}
use Rattle.order_kinds.specs.declared.contract.Quarter.{Quarter}
use Rattle.order_kinds.specs.declared.order.Order.{Order}
use Rattle.order_kinds.specs.declared.side.Side.{Side}
use Rattle.order_kinds.specs.Contract.{contract_at, is_known, part_number}
use Rattle.order_kinds.specs.Period.{contract_quarters}
use Rattle.order_kinds.specs.Side.{opposite}
use Rattle.zone_graph.specs.declared.memory.NoMemory.{NoMemory}
use Rattle.zone_graph.specs.declared.route.Arc.{Arc}
use Rattle.zone_graph.specs.Graph.{Graph, HasArc, IsGraph}
use Rattle.zone_graph.specs.Rooms.{room_of}
use Rattle.zone_graph.specs.Route.{IsIn}
use Rattle.contract_book.specs.declared.resting.Resting.{Resting}
use Rattle.contract_book.specs.Book.{line_of, parts_of}
use Rattle.market_model.specs.declared.event.Event.{Event}
use Rattle.market_model.specs.declared.setup.Setup.{Setup}
use Rattle.market_model.specs.Certificate.{bound_of, crossing_inside, room_across, unfilled_zones, zones_in_reach}
use Rattle.market_model.specs.Entering.{after_taking}
use Rattle.market_model.specs.Grid.{graph_of}
use Rattle.market_model.specs.Room.{room}
use Rattle.laws_of_market.proofs.LocalAnswers.{bound_of-agree}
use Rattle.laws_of_market.proofs.LocalLines.{contract-hours, line-agree}
use Rattle.laws_of_market.proofs.LocalStates.{Agree, room-agree}
use Rattle.laws_of_books.specs.BookOf.{book_of, resting_line}
use Rattle.laws_of_books.proofs.PartLines.{line_of-book, parts_of-book}
use Rattle.desk_entering.specs.Crossing.{bound_in}
use Rattle.desk_entering.proofs.Entries.{entries-leave}
use Rattle.desk_entering.proofs.Records.{bounds-are}
use Rattle.laws_of_maximum.proofs.SameRooms.{reach-same}
use Rattle.match_core.specs.Walks.{AreRoomsOf}
use Rattle.laws_of_hours.specs.OrderEvents.{without_hand}
use Rattle.kept_hour.specs.Planned.{IsUnplanned}
use Rattle.kept_hour.specs.State.{HourState}
use Rattle.match_core.specs.declared.taker.Taker.{Taker}
use Rattle.desk_entering.specs.Entries.{Enters, HasTaken}
use Rattle.desk_entering.proofs.Entry as entries
use Rattle.desk_entering.proofs.Fresh.{contract-is}

-- what holds of what is answered holds of all that follows from it
pub ok-then : {X : Type 0} {P Q : X → Type 0} (result : Result X NoMemory) → ((x : X) → P x → Q x) → IfOk result P → IfOk result Q
ok-then (Ok x) step holds = step x holds
ok-then (Err error) step holds = tt

-- rooms that say the same of each arc of a graph leave the same zones in reach
pub reach-by : (graph : Graph) (made rooms : Arc → ℕ) → ((arc : Arc) → HasArc graph arc → made arc ≡ rooms arc) → IsGraph graph → (side : Side) (zone : ℕ)
    → zones_in_reach graph made side zone ≡ zones_in_reach graph rooms side zone
reach-by graph made rooms same is side zone =
    sym (reach-same graph made made (λ arc has. refl) is side zone) ∙ reach-same graph made rooms same is side zone

module _ (graph : Graph) (hour : ℕ) (events : List Event) (caller : ℕ) (order : Order) (can : Enters graph hour events caller order) where
  abbrev setup : Setup
  setup = entries.setup graph hour events caller order can

  abbrev history : List Event
  history = entries.history graph hour events caller order can

  abbrev quarters : List Quarter
  quarters = contract_quarters order.contract

  agree : Agree (hour ∷ []) events history
  agree = entries.agree graph hour events caller order can

  in_hours : IsIn order.contract.hour (hour ∷ [])
  in_hours = entries.in_hours graph hour events caller order can

  -- the market's bound of some zones, from the line and the rooms before the order enters
  abbrev bound_before : Graph → List Event → (zones : List ℕ) → ℕ
  bound_before g es zones = crossing_inside es order zones + room_across g (room es quarters) order.side zones

  before-agrees : (g : Graph) (zones : List ℕ) → bound_before g events zones ≡ bound_before g history zones
  before-agrees g zones = ap₂ (λ inside across. inside + across) inside across
    where
      inside : crossing_inside events order zones ≡ crossing_inside history order zones
      inside = rw (line-agree (hour ∷ []) events history agree order.contract (opposite order.side) in_hours) refl

      across : room_across g (room events quarters) order.side zones ≡ room_across g (room history quarters) order.side zones
      across = ap (λ (r : Arc → ℕ). room_across g r order.side zones) (room-agree (hour ∷ []) events history agree quarters (contract-hours (hour ∷ []) order.contract in_hours))

  bound-over : (zones : List ℕ) → bound_before (graph_of setup) events zones ≡ bound_of (graph_of setup) events caller order zones
  bound-over zones =
      before-agrees (graph_of setup) zones
      ∙ entries-leave setup history caller order zones (entries.is_in graph hour events caller order can).fit (entries.enters_history graph hour events caller order can)
      ∙ sym (bound_of-agree (hour ∷ []) events history agree (graph_of setup) caller order in_hours zones)

  bound-before : (zones : List ℕ) → bound_before graph events zones ≡ bound_of graph events caller order zones
  bound-before zones =
      subst (λ g. bound_before g events zones ≡ bound_of g events caller order zones) (entries.next_event graph hour events caller order can).over_grid (bound-over zones)

  -- so it is the bound of the book and the rooms of the hour as it is settled
  pub bound-is : (rooms : List (ℕ × ℕ)) (zones : List ℕ) → ((arc : Arc) → HasArc graph arc → room_of rooms arc ≡ room events quarters arc)
      → bound_in graph (room_of rooms) (line_of (book_of events hour) (part_number order.contract.part) (opposite order.side)) order zones
      ≡ bound_of graph events caller order zones
  bound-is rooms zones same =
      let side : Side = opposite order.side in
      let of : ℕ → Contract = λ h. record { hour = h; part = order.contract.part } in
      let its_line : line_of (book_of events hour) (part_number order.contract.part) side ≡ resting_line events order.contract side =
      line_of-book events hour order.contract.part side (entries.enters_here graph hour events caller order can).in_part
      ∙ ap (λ c. resting_line events c side) (sym (ap of can.in_hour)) in
      bounds-are graph rooms (line_of (book_of events hour) (part_number order.contract.part) side) events order zones its_line same ∙ bound-before zones

  -- and the zones in reach as its taking ends are those that are unfilled
  pub zones-are : zones_in_reach graph (room (after_taking graph events caller order) quarters) order.side order.zone ≡ unfilled_zones graph events caller order
  unfolding unfilled_zones
  zones-are = refl

-- the zones that are left in reach of an order in hand are those that are unfilled
pub zones-found : (hour : HourState) (caller : ℕ) (order : Order) (taker : Taker) → HasTaken hour caller order taker → (graph : Graph) → graph ≡ hour.board.grid
    → (zones : List ℕ) → zones ≡ zones_in_reach graph (room hour.board.events (contract_quarters order.contract)) order.side order.zone
    → zones ≡ unfilled_zones hour.board.grid hour.settled caller order
zones-found hour caller order taker taken graph over zones is =
    let its : Graph → List Event → List ℕ = λ g es. zones_in_reach g (room es (contract_quarters order.contract)) order.side order.zone in
    is
    ∙ ap (λ g. its g hour.board.events) over
    ∙ ap (its hour.board.grid) taken.events
    ∙ zones-are hour.board.grid hour.board.hour hour.settled caller order taken.enters

-- ---- an hour without planned events

module _ (hour : HourState) (order : Order) (unplanned : IsUnplanned hour) (in_hour : order.contract.hour ≡ hour.board.hour) (known : is_known order.contract.part ≡ true)
    (part : ℕ) (part_is : part ≡ part_number order.contract.part) (rooms : List (ℕ × ℕ)) (of_part : AreRoomsOf hour.board part rooms) where
  -- the rooms of a part are those of the contract, as they are settled
  pub settled-rooms : (arc : Arc) → HasArc hour.board.grid arc → room_of rooms arc ≡ room hour.settled (contract_quarters order.contract) arc
  settled-rooms arc has =
      of_part.same arc has
      ∙ ap (λ c. room hour.board.events (contract_quarters c) arc)
      (ap (contract_at hour.board.hour) part_is ∙ sym (contract-is order.contract hour.board.hour in_hour known))
      ∙ ap (λ es. room es (contract_quarters order.contract) arc) unplanned.events

  -- and the bound is that of the market
  pub bound-found : (caller : ℕ) → Enters hour.board.grid hour.board.hour hour.settled caller order → (graph : Graph) → graph ≡ hour.board.grid
      → (book : List (List Resting)) → book ≡ without_hand hour.board.hand (book_of hour.board.events hour.board.hour) → (zones : List ℕ) (bound : ℕ)
      → bound ≡ bound_in graph (room_of rooms) (line_of book part (opposite order.side)) order zones
      → bound ≡ bound_of hour.board.grid hour.settled caller order zones
  bound-found caller can graph over book is_book zones bound is =
      is
      ∙ ap (λ g. bound_in g (room_of rooms) (line_of book part (opposite order.side)) order zones) over
      ∙ ap (λ b. bound_in hour.board.grid (room_of rooms) (line_of b part (opposite order.side)) order zones) (is_book ∙ book-settled)
      ∙ ap (λ p. bound_in hour.board.grid (room_of rooms) (line_of (book_of hour.settled hour.board.hour) p (opposite order.side)) order zones) part_is
      ∙ bound-is hour.board.grid hour.board.hour hour.settled caller order can rooms zones settled-rooms
    where
      book-settled : without_hand hour.board.hand (book_of hour.board.events hour.board.hour) ≡ book_of hour.settled hour.board.hour
      book-settled =
          ap (λ hand. without_hand hand (book_of hour.board.events hour.board.hour)) unplanned.free
          ∙ ap (λ es. book_of es hour.board.hour) unplanned.events

-- the book of an hour without planned events has its seven parts
pub part-in-book : (hour : HourState) (part : ℕ) (book : List (List Resting)) → IsUnplanned hour → part < 7
    → book ≡ without_hand hour.board.hand (book_of hour.board.events hour.board.hour) → part < parts_of book
part-in-book hour part book unplanned low is =
    let same : parts_of book ≡ 7 =
    ap parts_of (is ∙ ap (λ hand. without_hand hand (book_of hour.board.events hour.board.hour)) unplanned.free) ∙ parts_of-book hour.board.events hour.board.hour in
    omega (arith, same, low)
