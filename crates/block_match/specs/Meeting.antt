-- Two blocks of opposite sides that may trade: wholly or not at all.
use Rattle.std.specs.Prelude.{ℕ, Bool, false, ◌==◌, ◌&&◌, List, Option, Some, None, if◌then◌else◌}
use Rattle.order_kinds.specs.declared.side.Side.{Side}
use Rattle.order_kinds.specs.declared.side.Side.TheVariants.{Buy, Sell}
use Rattle.order_kinds.specs.Side.{crosses}
use Rattle.zone_graph.specs.declared.route.Arc.{Arc}
use Rattle.zone_graph.specs.declared.route.RouteLeg.{RouteLeg}
use Rattle.zone_graph.specs.Graph.{Graph, HasZone}
use Rattle.zone_graph.specs.Pour.{pour}
use Rattle.zone_graph.specs.Route.{IsIn}
use Rattle.block_book.specs.declared.block.RestingBlock.{RestingBlock}
use Rattle.route_choice.specs.Poured.{lots_of}

-- the zones of blocks are in the grid
abbrev pub HaveZones : Graph → List RestingBlock → Type 0
HaveZones graph blocks = (block : RestingBlock) → IsIn block blocks → HasZone graph block.zone

-- the zones of the seller and of the buyer
abbrev pub seller_zone : (own other : RestingBlock) → ℕ
seller_zone own other = by_side own.side
  where
    by_side : Side → ℕ
    by_side Buy = other.zone
    by_side Sell = own.zone

abbrev pub buyer_zone : (own other : RestingBlock) → ℕ
buyer_zone own other = by_side own.side
  where
    by_side : Side → ℕ
    by_side Buy = own.zone
    by_side Sell = other.zone

-- the legs of the pour of a block's quantity from the seller's zone to the buyer's
abbrev pub legs_between : Graph → (Arc → ℕ) → (own other : RestingBlock) → List RouteLeg
legs_between graph room own other = pour graph room (seller_zone own other) (buyer_zone own other) own.quantity

-- they carry all of it
abbrev pub carries_whole : Graph → (Arc → ℕ) → (own other : RestingBlock) → Bool
carries_whole graph room own other = lots_of (legs_between graph room own other) == own.quantity

-- the legs, where they carry all
abbrev pub legs_if_whole : Graph → (Arc → ℕ) → (own other : RestingBlock) → Option (List RouteLeg)
legs_if_whole graph room own other = if carries_whole graph room own other then Some (legs_between graph room own other) else None

-- the price of a block crosses that of one of the other side
abbrev pub is_crossed : (own other : RestingBlock) → Bool
is_crossed own other = crosses own.side own.price other.price

-- two blocks of opposite sides can trade: of the same quantity, at prices that cross, and the pour
-- carries all of it
abbrev pub can_trade : Graph → (Arc → ℕ) → (own other : RestingBlock) → Bool
can_trade graph room own other =
    if (other.quantity == own.quantity) && is_crossed own other then carries_whole graph room own other else false
