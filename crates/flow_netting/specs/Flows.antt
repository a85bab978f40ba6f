-- The flows of one hour: what is offered, what flows and what remains on each arc in each quarter,
-- which borders are halted, and the hour's phase. The quarters of an hour are numbered from 1 to 4.
use Rattle.std.specs.Prelude.{◌≡◌, ℕ, ◌<◌, Bool, true, List, length, map, slice_index_or, ℤ, pos, ◌-ℤ◌, ◌≤ℤ◌}
use Rattle.order_kinds.specs.declared.phase.Phase.{Phase}
use Rattle.quarter_capacity.specs.Row.{Row, offered, flow, remaining}
use Rattle.zone_graph.specs.declared.route.Arc.{Arc}
use Rattle.zone_graph.specs.Pour.{lots_if, opposite_arc}
use Rattle.zone_graph.specs.Route.{AreDifferent, IsIn}
use Rattle.market_model.specs.Room.{is_open_phase}
use Rattle.flow_netting.specs.declared.quarter_set.QuarterSet.{QuarterSet}
use Rattle.order_kinds.specs.Period.{EachQuarter}
use Rattle.flow_netting.specs.Border.{Border, idle_border, row_in, set_room}
use Rattle.flow_netting.specs.QuarterSet.{has}

-- each border, by its number, and the phase
pub record Flows : Type 0 where
  pub borders : List Border
  pub phase : Phase

abbrev pub border_count : Flows → ℕ
border_count flows = length flows.borders

-- a border by its number; one that is not there is idle
abbrev pub border_at : List Border → (border : ℕ) → Border
border_at borders border = slice_index_or borders border idle_border

-- the row of an arc's border in a quarter
abbrev pub row_at : List Border → Arc → (number : ℕ) → Row
row_at borders arc number = row_in (border_at borders arc.border) number

-- the lots that are offered on an arc in a quarter
abbrev pub offered_at : List Border → Arc → (number : ℕ) → ℕ
offered_at borders arc number = offered (row_at borders arc number) arc.forward

-- what flows over an arc in a quarter
abbrev pub flow_at : List Border → Arc → (number : ℕ) → ℤ
flow_at borders arc number = flow (row_at borders arc number) arc.forward

-- what remains on an arc in a quarter
abbrev pub remaining_at : List Border → Arc → (number : ℕ) → ℤ
remaining_at borders arc number = remaining (row_at borders arc number) arc.forward

-- the same of the flows of an hour
abbrev pub offered_of : Flows → Arc → (number : ℕ) → ℕ
offered_of flows = offered_at flows.borders

abbrev pub flow_of : Flows → Arc → (number : ℕ) → ℤ
flow_of flows = flow_at flows.borders

abbrev pub remaining_of : Flows → Arc → (number : ℕ) → ℤ
remaining_of flows = remaining_at flows.borders

-- trade over a border is halted
abbrev pub is_halted : Flows → (border : ℕ) → Bool
is_halted flows border = (border_at flows.borders border).halted

-- the room of an arc over the quarters of a set: the least of what remains in them, and none where
-- the border is halted or the hour is not open
abbrev pub room_of : Flows → QuarterSet → Arc → ℕ
room_of flows set arc = set_room (is_open_phase flows.phase) (border_at flows.borders arc.border) arc.forward set

-- something is true of each arc in each quarter
abbrev pub InEachQuarter : (Arc → (number : ℕ) → Type 0) → Type 0
InEachQuarter P = (arc : Arc) → EachQuarter (P arc)

-- the borders of a route are there, and it names none of them twice
pub record IsOverBorders (borders : List Border) (route : List Arc) : Type 0 where
  pub there : (arc : Arc) → IsIn arc route → arc.border < length borders
  pub different : AreDifferent (map (λ arc. arc.border) route)

-- on each arc of a route so many lots remain in each quarter of a set
abbrev pub HasLotsLeft : List Border → List Arc → QuarterSet → (lots : ℕ) → Type 0
HasLotsLeft borders route set lots =
    (arc : Arc) → IsIn arc route → EachQuarter (λ number. has set number ≡ true → pos lots ≤ℤ remaining_at borders arc number)

-- what lots that some arcs carry add to the flow over an arc: the lots where it is one of them, less
-- the lots where the opposite one is
abbrev pub added_by : (carries : Arc → Bool) → (lots : ℕ) → Arc → ℤ
added_by carries lots arc = pos (lots_if (carries arc) lots) -ℤ pos (lots_if (carries (opposite_arc arc)) lots)

-- what is offered is as before
abbrev pub SameOffers : (old new : List Border) → Type 0
SameOffers old new = InEachQuarter (λ arc number. offered_at new arc number ≡ offered_at old arc number)

-- what flows is as before
abbrev pub SameFlows : (old new : List Border) → Type 0
SameFlows old new = InEachQuarter (λ arc number. flow_at new arc number ≡ flow_at old arc number)

-- the borders that are halted are as before
abbrev pub SameHalts : (old new : List Border) → Type 0
SameHalts old new = (border : ℕ) → (border_at new border).halted ≡ (border_at old border).halted
