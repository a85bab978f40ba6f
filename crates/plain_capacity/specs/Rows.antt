-- The borders of a grid in one quarter of an hour: what is offered and what flows on each arc.
use Rattle.std.specs.Prelude.{◌≡◌, ℕ, ◌<◌, ◌≤◌, true, List, length, map, slice_index_or, unwrap_or, ℤ, pos, ◌+ℤ◌, ◌≤ℤ◌}
use Rattle.order_kinds.specs.declared.contract.Quarter.{Quarter}
use Rattle.order_kinds.specs.Period.{block_has, contract_has, range_has}
use Rattle.quarter_capacity.specs.Capacity.{flow_of, remaining_of, most_offered}
use Rattle.quarter_capacity.specs.Row.{Row, flow, nothing_offered, offered}
use Rattle.zone_graph.specs.declared.route.Arc.{Arc}
use Rattle.zone_graph.specs.Graph.{Graph, border_count}
use Rattle.zone_graph.specs.Pour.{lots_if, opposite_arc, uses}
use Rattle.zone_graph.specs.Route.{AreDifferent, IsIn}
use Rattle.market_model.specs.declared.event.Event.{Event}
use Rattle.market_model.specs.declared.event.Event.TheVariants as event
use Rattle.market_model.specs.Capacity as market

-- the row of an arc's border; over a border that is not there nothing is offered
abbrev pub row_at : List Row → Arc → Row
row_at rows arc = slice_index_or rows arc.border nothing_offered

-- the lots that are offered on an arc
abbrev pub offered_at : List Row → Arc → ℕ
offered_at rows arc = offered (row_at rows arc) arc.forward

-- what flows over an arc
abbrev pub flow_at : List Row → Arc → ℤ
flow_at rows arc = flow (row_at rows arc) arc.forward

-- what remains on an arc
abbrev pub remaining_at : List Row → Arc → ℤ
remaining_at rows arc = remaining_of (offered_at rows arc) (flow_at rows arc)

-- what is offered is as before
abbrev pub SameOffers : (old new : List Row) → Type 0
SameOffers old new = (arc : Arc) → offered_at new arc ≡ offered_at old arc

-- what flows is as before
abbrev pub SameFlows : (old new : List Row) → Type 0
SameFlows old new = (arc : Arc) → flow_at new arc ≡ flow_at old arc

-- over each arc flows besides what is used of it, less what is used of the opposite one
abbrev pub FlowsMore : (used : Arc → ℕ) → (old new : List Row) → Type 0
FlowsMore used old new = (arc : Arc) → flow_at new arc ≡ flow_at old arc +ℤ flow_of (used arc) (used (opposite_arc arc))

-- a route can carry lots: its borders are there, none of them twice, and so many lots remain on each
-- of its arcs
pub record CanCarry (rows : List Row) (route : List Arc) (lots : ℕ) : Type 0 where
  pub there : (arc : Arc) → IsIn arc route → arc.border < length rows
  pub different : AreDifferent (map (λ arc. arc.border) route)
  pub left : (arc : Arc) → IsIn arc route → pos lots ≤ℤ remaining_at rows arc

-- so many lots can be used of an arc
pub record CanTake (rows : List Row) (arc : Arc) (lots : ℕ) : Type 0 where
  pub there : arc.border < length rows
  pub left : pos lots ≤ℤ remaining_at rows arc

-- so many lots can be offered on an arc
pub record CanOffer (rows : List Row) (arc : Arc) (lots : ℕ) : Type 0 where
  pub there : arc.border < length rows
  pub most : lots ≤ most_offered
  pub covers_flow : flow_at rows arc ≤ℤ pos lots

-- what an event uses or offers in a quarter can be used or offered
abbrev pub CanNote : List Row → Quarter → Event → Type 0
CanNote rows quarter (event.Leg contract leg) = contract_has contract quarter ≡ true → CanCarry rows leg.route leg.lots
CanNote rows quarter (event.BlockLeg first last leg) = block_has first last quarter ≡ true → CanCarry rows leg.route leg.lots
CanNote rows quarter (event.Granted arc first last lots) = range_has first last quarter ≡ true → CanTake rows arc lots
CanNote rows quarter (event.Offered arc first last lots) = range_has first last quarter ≡ true → CanOffer rows arc lots
CanNote rows quarter _ = Unit {0}

-- these are the rows of a quarter after some events over a graph
pub record IsQuarterOf (graph : Graph) (events : List Event) (quarter : Quarter) (rows : List Row) : Type 0 where
  pub size : length rows ≡ border_count graph
  pub offers : (arc : Arc) → offered_at rows arc ≡ market.offered events quarter arc
  pub flows : (arc : Arc) → flow_at rows arc ≡ market.flow events quarter arc

-- the rows after an event of a quarter
pub record IsNoted (quarter : Quarter) (event : Event) (old new : List Row) : Type 0 where
  pub size : length new ≡ length old
  pub offers : (arc : Arc) → offered_at new arc ≡ unwrap_or (market.offered_by quarter arc event) (offered_at old arc)
  pub flows : FlowsMore (λ arc. market.allocated_by quarter arc event) old new

-- the rows after lots that a route carries
pub record IsCarried (route : List Arc) (lots : ℕ) (old new : List Row) : Type 0 where
  pub size : length new ≡ length old
  pub offers : SameOffers old new
  pub flows : FlowsMore (λ arc. lots_if (uses route arc) lots) old new
