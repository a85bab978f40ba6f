-- The room of an arc: what a trade or a request can still use of it. The phases and their meaning
-- are this market's own.
use Rattle.std.specs.Prelude.{ℕ, Bool, true, false, ◌==◌, ◌&&◌, not, List, [], ◌∷◌, map, fold, min, ℤ, pos, negsuc, Option, Some, None, if◌then◌else◌}
use Rattle.order_kinds.specs.declared.contract.Quarter.{Quarter}
use Rattle.order_kinds.specs.declared.phase.Phase.{Phase}
use Rattle.order_kinds.specs.declared.phase.Phase.TheVariants as phase
use Rattle.order_kinds.specs.Period.{is_within}
use Rattle.zone_graph.specs.declared.route.Arc.{Arc}
use Rattle.market_model.specs.declared.event.Event.{Event}
use Rattle.market_model.specs.declared.event.Event.TheVariants as event
use Rattle.market_model.specs.Capacity.{remaining}
use Rattle.market_model.specs.History.{last_said}

-- the phase that an event gives an hour, where it does
abbrev pub phase_by : (hour : ℕ) → Event → Option Phase
phase_by hour (event.Gated gated phase) = if gated == hour then Some phase else None
phase_by hour _ = None

-- the phase of an hour: that of its last gate, and open before the first
abbrev pub phase_of : List Event → (hour : ℕ) → Phase
phase_of events hour = last_said (phase_by hour) phase.Open events

abbrev pub is_open_phase : Phase → Bool
is_open_phase phase.Open = true
is_open_phase phase.Local = false
is_open_phase phase.Closed = false

abbrev pub is_closed_phase : Phase → Bool
is_closed_phase phase.Open = false
is_closed_phase phase.Local = false
is_closed_phase phase.Closed = true

-- whether an event leaves a border halted in an hour, where it says so
abbrev pub halt_by : (border hour : ℕ) → Event → Option Bool
halt_by border hour (event.Halted halted first last) =
    if (halted == border) && is_within first last hour then Some true else None
halt_by border hour (event.Resumed resumed first last) =
    if (resumed == border) && is_within first last hour then Some false else None
halt_by border hour _ = None

-- a border is halted in an hour: the last halt or resumption for both is a halt
abbrev pub is_halted : List Event → (border hour : ℕ) → Bool
is_halted events border hour = last_said (halt_by border hour) false events

-- so many lots, and none below 0
abbrev pub lots_of : ℤ → ℕ
lots_of (pos lots) = lots
lots_of (negsuc lots) = 0

-- the least of some numbers
abbrev pub least : List ℕ → ℕ
least [] = 0
least (n ∷ ns) = fold min n ns

-- the room of an arc in one quarter: what remains, and none where the border is halted or the hour
-- is not open
abbrev pub quarter_room : List Event → Arc → Quarter → ℕ
quarter_room events arc quarter =
    if is_open_phase (phase_of events quarter.hour) && not (is_halted events arc.border quarter.hour)
    then lots_of (remaining events quarter arc) else 0

-- the room of an arc over several quarters: the least of theirs
abbrev pub room : List Event → List Quarter → Arc → ℕ
room events quarters arc = least (map (quarter_room events arc) quarters)
