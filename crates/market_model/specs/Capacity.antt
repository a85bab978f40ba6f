-- The capacity of the arcs, in lots, quarter by quarter, as sums over a history. The outline is that
-- of the public descriptions of cross-border capacity: trades and explicit requests use up what is
-- offered, and opposite flows net.
use Rattle.std.specs.Prelude.{ℕ, ◌&&◌, List, sum_by, ℤ, Option, Some, None, if◌then◌else◌}
use Rattle.order_kinds.specs.declared.contract.Quarter.{Quarter}
use Rattle.order_kinds.specs.Period.{block_has, contract_has, range_has}
use Rattle.quarter_capacity.specs.Capacity.{flow_of, remaining_of}
use Rattle.zone_graph.specs.declared.route.Arc.{Arc}
use Rattle.zone_graph.specs.Pour.{lots_if, opposite_arc, same_arc, uses}
use Rattle.market_model.specs.declared.event.Event.{Event}
use Rattle.market_model.specs.declared.event.Event.TheVariants as event
use Rattle.market_model.specs.History.{last_said}

-- the lots that an event allocates on an arc in a quarter: a leg, a leg of blocks or a grant that
-- uses the arc then
abbrev pub allocated_by : Quarter → Arc → Event → ℕ
allocated_by quarter arc (event.Leg contract leg) = lots_if (contract_has contract quarter && uses leg.route arc) leg.lots
allocated_by quarter arc (event.BlockLeg first last leg) = lots_if (block_has first last quarter && uses leg.route arc) leg.lots
allocated_by quarter arc (event.Granted granted first last lots) = lots_if (range_has first last quarter && same_arc granted arc) lots
allocated_by quarter arc _ = 0

-- what is allocated on an arc in a quarter
abbrev pub allocated : List Event → Quarter → Arc → ℕ
allocated events quarter arc = sum_by (allocated_by quarter arc) events

-- what an event offers on an arc in a quarter, where it does
abbrev pub offered_by : Quarter → Arc → Event → Option ℕ
offered_by quarter arc (event.Offered offered first last lots) =
    if range_has first last quarter && same_arc offered arc then Some lots else None
offered_by quarter arc _ = None

-- what is offered on an arc in a quarter: the last offer, and nothing before the first
abbrev pub offered : List Event → Quarter → Arc → ℕ
offered events quarter arc = last_said (offered_by quarter arc) 0 events

-- what flows over an arc in a quarter: the allocations on it less those on the opposite arc
abbrev pub flow : List Event → Quarter → Arc → ℤ
flow events quarter arc = flow_of (allocated events quarter arc) (allocated events quarter (opposite_arc arc))

-- what remains on an arc in a quarter: the offer less the flow
abbrev pub remaining : List Event → Quarter → Arc → ℤ
remaining events quarter arc = remaining_of (offered events quarter arc) (flow events quarter arc)
