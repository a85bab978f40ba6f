-- How blocks trade: wholly or not at all, with one other block of the same period and quantity. That
-- blocks are matched whole is the public description's; the choice of the partner is this market's own.
use Rattle.std.specs.Prelude.{ℕ, Bool, false, ◌==◌, ◌&&◌, List, [], ◌∷◌, ◌++◌, map, filter, flat_map, length, Option, Some, None, if◌then◌else◌}
use Rattle.std.specs.List.{find}
use Rattle.std.specs.Option.{option_map}
use Rattle.std.specs.Ordering.{is_lt, nat_cmp, ordering_then}
use Rattle.std.specs.declared.cmp.Ordering.{Ordering}
use Rattle.order_kinds.specs.declared.order.BlockOrder.{BlockOrder}
use Rattle.order_kinds.specs.declared.order.OrderName.{OrderName}
use Rattle.order_kinds.specs.declared.side.Side.{Side}
use Rattle.order_kinds.specs.declared.side.Side.TheVariants.{Buy, Sell}
use Rattle.order_kinds.specs.declared.contract.Part.{Part}
use Rattle.order_kinds.specs.Period.{block_quarters, hours_from}
use Rattle.order_kinds.specs.Same.{same_side}
use Rattle.order_kinds.specs.Side.{crosses, opposite, price_cmp}
use Rattle.zone_graph.specs.declared.route.RouteLeg.{RouteLeg}
use Rattle.zone_graph.specs.Graph.{Graph}
use Rattle.zone_graph.specs.Pour.{pour_leg}
use Rattle.zone_graph.specs.Steps.{IsRun, steps}
use Rattle.market_model.specs.declared.event.Event.{Event}
use Rattle.market_model.specs.declared.event.Event.TheVariants as event
use Rattle.market_model.specs.History.{and_then}
use Rattle.market_model.specs.Orders.{PlacedBlock, block_moment, blocks_placed, is_open, left, next_name}
use Rattle.market_model.specs.Room.{room}
use Rattle.market_model.specs.Sweep.{first_answer, sweeps}
use Rattle.zone_graph.specs.InOrder.{in_order}

-- a block as it stands: what was entered, what is left of it, and its moment
pub record StandingBlock : Type 0 where
  pub name : OrderName
  pub order : BlockOrder
  pub left : ℕ
  pub moment : ℕ

abbrev pub standing_block : List Event → PlacedBlock → StandingBlock
standing_block events block = record {
  name = block.name;
  order = block.order;
  left = left events block.name;
  moment = block_moment events block;
}

-- priority by time: the earlier moment, and of equal ones the smaller number
abbrev pub block_time_cmp : (a b : StandingBlock) → Ordering
block_time_cmp a b = ordering_then (nat_cmp a.moment b.moment) (nat_cmp a.name.number b.name.number)

-- priority on a side: the better price, then time
abbrev pub block_priority_cmp : Side → (a b : StandingBlock) → Ordering
block_priority_cmp side a b = ordering_then (price_cmp side a.order.price b.order.price) (block_time_cmp a b)

-- a block is of a period
abbrev pub is_of_period : (first last : ℕ) → BlockOrder → Bool
is_of_period first last order = (order.first == first) && (order.last == last)

-- a block is open, of a period and on a side
abbrev pub block_stands_in : List Event → (first last : ℕ) → Side → PlacedBlock → Bool
block_stands_in events first last side block =
    is_open events block.name && is_of_period first last block.order && same_side block.order.side side

-- the line of a period and side: its open blocks of all quantities in priority
unfoldable pub block_line : List Event → (first last : ℕ) → Side → List StandingBlock
block_line events first last side =
    in_order (block_priority_cmp side) (map (standing_block events) (filter (block_stands_in events first last side) (blocks_placed events)))

-- the zones of the seller and of the buyer
abbrev pub block_seller_zone : (own other : StandingBlock) → ℕ
block_seller_zone own other = by_side own.order.side
  where
    by_side : Side → ℕ
    by_side Buy = other.order.zone
    by_side Sell = own.order.zone

abbrev pub block_buyer_zone : (own other : StandingBlock) → ℕ
block_buyer_zone own other = by_side own.order.side
  where
    by_side : Side → ℕ
    by_side Buy = own.order.zone
    by_side Sell = other.order.zone

-- the leg of a taker with a maker that a route carries in each quarter of the period, at the maker's
-- price
abbrev pub block_leg_over : (taker maker : StandingBlock) → RouteLeg → Event
block_leg_over taker maker leg = event.BlockLeg taker.order.first taker.order.last (record {
  taker = taker.name;
  maker = maker.name;
  lots = leg.lots;
  price = maker.order.price;
  route = leg.route;
})

-- the next leg of the pour between two blocks, of what is then left of the taker: over the best
-- route of the rooms as they then are
unfoldable pub block_leg : Graph → (taker maker : StandingBlock) → List Event → Option Event
block_leg graph taker maker events =
    option_map (block_leg_over taker maker)
    (pour_leg graph (room events (block_quarters taker.order.first taker.order.last))
    (block_seller_zone taker maker) (block_buyer_zone taker maker) (left events taker.name))

-- the legs of the pour: each lowers what is left of the taker, so there are no more than that
unfoldable pub block_legs : Graph → (taker maker : StandingBlock) → List Event → List Event
block_legs graph taker maker events = steps (left events taker.name) (block_leg graph taker maker) and_then events

-- these are the legs of the pour: each is the next one, and after the last there is none
abbrev pub IsBlockPour : Graph → (taker maker : StandingBlock) → List Event → List Event → Type 0
IsBlockPour graph taker maker events legs = IsRun (block_leg graph taker maker) and_then events legs

-- the pour carries all that is left of the taker
abbrev pub carries_whole : Graph → List Event → (taker maker : StandingBlock) → Bool
carries_whole graph events taker maker = left (events ++ block_legs graph taker maker events) taker.name == 0

-- two blocks of opposite sides can trade: of the same quantity, at prices that cross, and the pour
-- carries all of it
abbrev pub can_trade_blocks : Graph → List Event → (own other : StandingBlock) → Bool
can_trade_blocks graph events own other =
    if (other.order.quantity.0 == own.order.quantity.0) && crosses own.order.side own.order.price other.order.price
    then carries_whole graph events own other else false

-- the partner of a block: the first of the opposite line of its period that it can trade with
unfoldable pub block_partner : Graph → List Event → StandingBlock → Option StandingBlock
block_partner graph events own =
    find (can_trade_blocks graph events own) (block_line events own.order.first own.order.last (opposite own.order.side))

-- the block that enters, as it stands then
abbrev pub entering_block : List Event → (caller : ℕ) → BlockOrder → StandingBlock
entering_block events caller order =
    standing_block (and_then events (event.EnteredBlock (next_name events order.first) caller order))
    (record { name = next_name events order.first; caller = caller; order = order })

-- the history with the block entered
abbrev pub with_block : List Event → (caller : ℕ) → BlockOrder → List Event
with_block events caller order = and_then events (event.EnteredBlock (next_name events order.first) caller order)

-- the partner that a block finds as it enters
abbrev pub partner_found : Graph → List Event → (caller : ℕ) → BlockOrder → Option StandingBlock
partner_found graph events caller order =
    block_partner graph (with_block events caller order) (entering_block events caller order)

-- the legs with the partner, where there is one
abbrev pub legs_with : Graph → List Event → (taker : StandingBlock) → Option StandingBlock → List Event
legs_with graph events taker None = []
legs_with graph events taker (Some maker) = block_legs graph taker maker events

-- the events of a block that enters and is not refused: its entry, the legs with its partner, the
-- sweeps of its hours
unfoldable pub enter_block : List Part → Graph → (caller : ℕ) → BlockOrder → List Event → List Event
enter_block parts graph caller order events =
    let entry = event.EnteredBlock (next_name events order.first) caller order ∷ [] in
    let legs = legs_with graph (events ++ entry) (entering_block events caller order) (partner_found graph events caller order) in
    let done = entry ++ legs in
    done ++ sweeps parts graph (hours_from order.first order.last) (events ++ done)

-- the legs of two resting blocks: the one that was there earlier is the maker
abbrev pub resting_block_legs : Graph → List Event → (buy sell : StandingBlock) → List Event
resting_block_legs graph events buy sell =
    if is_lt (block_time_cmp buy sell) then block_legs graph sell buy events else block_legs graph buy sell events

-- the legs of a buy block with its partner, where it has one
abbrev pub deal_of_buy : Graph → List Event → (buy : StandingBlock) → Option (List Event)
deal_of_buy graph events buy = option_map (resting_block_legs graph events buy) (block_partner graph events buy)

-- the next deal of a period: of the first buy block in priority that has a partner
unfoldable pub block_deal : Graph → (first last : ℕ) → List Event → Option (List Event)
block_deal graph first last events = first_answer (deal_of_buy graph events) (block_line events first last Buy)

-- the deals of a period: each closes a buy block, so there are no more than open ones
unfoldable pub block_deals : Graph → (first last : ℕ) → List Event → List (List Event)
block_deals graph first last events =
    steps (length (block_line events first last Buy)) (block_deal graph first last) (λ history deal. history ++ deal) events

-- these are the deals of the period: each is the next one, and after the last there is none
abbrev pub AreBlockDeals : Graph → (first last : ℕ) → List Event → List (List Event) → Type 0
AreBlockDeals graph first last events deals =
    IsRun (block_deal graph first last) (λ history deal. history ++ deal) events deals

-- the events of matching the resting blocks of a period: the deals, then the sweeps of its hours
unfoldable pub match_blocks : List Part → Graph → (first last : ℕ) → List Event → List Event
match_blocks parts graph first last events =
    let legs = flat_map (λ deal. deal) (block_deals graph first last events) in
    legs ++ sweeps parts graph (hours_from first last) (events ++ legs)
