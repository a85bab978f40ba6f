-- The capacity of one hour as it follows from a list of events. The quarters of an hour are numbered
-- from 1 to 4.
use Rattle.std.specs.Prelude.{◌≡◌, ℕ, ◌<◌, ◌==◌, ◌&&◌, Bool, true, false, not, List, length, map, replicate, slice_index_or, ℤ, if◌then◌else◌}
use Rattle.order_kinds.specs.declared.contract.Part.{Part}
use Rattle.order_kinds.specs.declared.contract.Part.TheVariants as part
use Rattle.order_kinds.specs.declared.phase.Phase.{Phase}
use Rattle.order_kinds.specs.declared.phase.Phase.TheVariants as phase
use Rattle.order_kinds.specs.Contract.{quarters}
use Rattle.order_kinds.specs.Period.{EachQuarter, is_within, quarter_of}
use Rattle.quarter_capacity.specs.Row.{Row, nothing_offered}
use Rattle.zone_graph.specs.declared.route.Arc.{Arc}
use Rattle.zone_graph.specs.Graph.{Graph, border_count}
use Rattle.market_model.specs.declared.event.Event.{Event}
use Rattle.market_model.specs.declared.event.Event.TheVariants as event
use Rattle.market_model.specs.declared.event.Leg.{Leg}
use Rattle.market_model.specs.Room.{is_halted, is_open_phase, least, lots_of, phase_of}
use Rattle.plain_capacity.specs.Rows.{CanNote, IsQuarterOf, flow_at, remaining_at}

-- the rows of the borders in each of the four quarters, which borders are halted, and the phase
pub record Capacity : Type 0 where
  pub first : List Row
  pub second : List Row
  pub third : List Row
  pub fourth : List Row
  pub halted : List Bool
  pub phase : Phase

-- the capacity of an hour before any event: nothing is offered, nothing flows, no border is halted,
-- and the hour is open
abbrev pub idle : (size : ℕ) → Capacity
idle size = record {
  first = replicate size nothing_offered;
  second = replicate size nothing_offered;
  third = replicate size nothing_offered;
  fourth = replicate size nothing_offered;
  halted = replicate size false;
  phase = phase.Open;
}

-- the rows of the quarter of this number
abbrev pub rows_in : Capacity → (number : ℕ) → List Row
rows_in capacity number =
    if number == 1 then capacity.first
    else (if number == 2 then capacity.second else (if number == 3 then capacity.third else capacity.fourth))

-- there are so many borders in each quarter
pub record IsOfSize (size : ℕ) (capacity : Capacity) : Type 0 where
  pub first : length capacity.first ≡ size
  pub second : length capacity.second ≡ size
  pub third : length capacity.third ≡ size
  pub fourth : length capacity.fourth ≡ size

-- how many borders there are
abbrev pub size_of : Capacity → ℕ
size_of capacity = length capacity.halted

-- what flows over an arc in a quarter
abbrev pub flow_in : Capacity → (number : ℕ) → Arc → ℤ
flow_in capacity number arc = flow_at (rows_in capacity number) arc

-- what remains on an arc in a quarter
abbrev pub remaining_in : Capacity → (number : ℕ) → Arc → ℤ
remaining_in capacity number arc = remaining_at (rows_in capacity number) arc

-- a border is halted
abbrev pub halted_at : Capacity → (border : ℕ) → Bool
halted_at capacity border = slice_index_or capacity.halted border false

-- the room of an arc in a quarter: what remains, and none where the border is halted or the hour is
-- not open
abbrev pub room_in : Capacity → Arc → (number : ℕ) → ℕ
room_in capacity arc number =
    if is_open_phase capacity.phase && not (halted_at capacity arc.border) then lots_of (remaining_in capacity number arc) else 0

-- the room of an arc over the quarters of a part of the hour: the least of theirs
abbrev pub part_room : Capacity → Part → Arc → ℕ
part_room capacity part arc = least (map (room_in capacity arc) (quarters part))

-- this is the capacity of an hour after some events
pub record IsCapacityOf (graph : Graph) (events : List Event) (hour : ℕ) (capacity : Capacity) : Type 0 where
  pub size : size_of capacity ≡ border_count graph
  pub quarters : EachQuarter (λ number. IsQuarterOf graph events (quarter_of hour number) (rows_in capacity number))
  pub halts : (border : ℕ) → border < border_count graph → halted_at capacity border ≡ is_halted events border hour
  pub phase : capacity.phase ≡ phase_of events hour

-- an event enters an order or block, or takes lots off one: capacity is as before
abbrev pub is_of_orders : Event → Bool
is_of_orders (event.Entered name caller order) = true
is_of_orders (event.EnteredBlock name caller order) = true
is_of_orders (event.Withdrawn name lots) = true
is_of_orders (event.Reduced name by) = true
is_of_orders _ = false

-- an event is this leg, and counts in all quarters of an hour
abbrev pub IsLegOfHour : (hour : ℕ) → Leg → Event → Type 0
IsLegOfHour hour leg (event.Leg contract made) = (made ≡ leg) × (contract ≡ record { hour = hour; part = part.Hour })
IsLegOfHour hour leg (event.BlockLeg first last made) = (made ≡ leg) × (is_within first last hour ≡ true)
IsLegOfHour hour leg _ = ⊥

-- the border that an event halts or resumes in an hour is there
abbrev pub HasBorder : (size hour : ℕ) → Event → Type 0
HasBorder size hour (event.Halted border first last) = is_within first last hour ≡ true → border < size
HasBorder size hour (event.Resumed border first last) = is_within first last hour ≡ true → border < size
HasBorder size hour _ = Unit {0}

-- what an event of an hour does can be done
pub record CanNoteIn (hour : ℕ) (event : Event) (capacity : Capacity) : Type 0 where
  pub quarters : EachQuarter (λ number. CanNote (rows_in capacity number) (quarter_of hour number) event)
  pub border : HasBorder (size_of capacity) hour event
