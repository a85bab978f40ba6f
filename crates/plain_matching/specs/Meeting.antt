-- Two blocks that may trade, and the legs that they then have.
use Rattle.std.specs.Prelude.{◌≡◌, ℕ, ◌==◌, ◌&&◌, Bool, true, List, [], Option, unwrap_or, if◌then◌else◌}
use Rattle.std.specs.List.{find}
use Rattle.std.specs.Option.{option_map}
use Rattle.order_kinds.specs.Side.{crosses, opposite}
use Rattle.zone_graph.specs.declared.route.Arc.{Arc}
use Rattle.zone_graph.specs.Graph.{Graph}
use Rattle.zone_graph.specs.Route.{IsIn, carried}
use Rattle.market_model.specs.declared.event.Event.{Event}
use Rattle.market_model.specs.Blocks.{StandingBlock, block_leg_over, can_trade_blocks, resting_block_legs, standing_block}
use Rattle.market_model.specs.Orders.{PlacedBlock, blocks_placed, is_open}
use Rattle.plain_matching.specs.BlockEntering.{IsHistoryOver}

-- a block is open, and stands as the events say
pub record Stands (events : List Event) (found : StandingBlock) : Type 0 where
  pub block : PlacedBlock
  pub is_placed : IsIn block (blocks_placed events)
  pub is_left : is_open events block.name ≡ true
  pub is : found ≡ standing_block events block

-- two open blocks of a period and of opposite sides, after a legal history
pub record Meet (graph : Graph) (events : List Event) (own other : StandingBlock) : Type 0 where
  pub legal : IsHistoryOver graph events
  pub own_stands : Stands events own
  pub other_stands : Stands events other
  pub one_first : other.order.first ≡ own.order.first
  pub one_last : other.order.last ≡ own.order.last
  pub opposed : other.order.side ≡ opposite own.order.side

-- they are of one quantity too
pub record ArePoured (graph : Graph) (events : List Event) (taker maker : StandingBlock) : Type 0 where
  pub meet : Meet graph events taker maker
  pub one_quantity : maker.order.quantity ≡ taker.order.quantity

-- a block and each of a line, and each of two lines
pub record MeetsAll (graph : Graph) (events : List Event) (own : StandingBlock) (line : List StandingBlock) : Type 0 where
  pub each : (other : StandingBlock) → IsIn other line → Meet graph events own other

pub record AllMeet (graph : Graph) (events : List Event) (ones others : List StandingBlock) : Type 0 where
  pub each : (own : StandingBlock) → IsIn own ones → MeetsAll graph events own others

-- two blocks are of the same quantity, at prices that cross
abbrev pub is_match : (own other : StandingBlock) → Bool
is_match own other = (other.order.quantity.0 == own.order.quantity.0) && crosses own.order.side own.order.price other.order.price

-- the leg of a taker with a maker over a route: what it can carry of so many lots
abbrev pub leg_of : (Arc → ℕ) → (taker maker : StandingBlock) → (lots : ℕ) → List Arc → Event
leg_of room taker maker lots route = block_leg_over taker maker (record { route = route; lots = carried room lots route })

-- the legs where a test holds, else none
abbrev pub legs_if : Bool → List Event → List Event
legs_if test legs = if test then legs else []

abbrev pub deal_if : Bool → Graph → List Event → (own other : StandingBlock) → List Event
deal_if test graph events own other = legs_if test (resting_block_legs graph events own other)

-- the legs of a deal, where there is one
abbrev pub legs_of : Option (List Event) → List Event
legs_of deal = unwrap_or deal []

-- the deal of a block with its partner in a line
abbrev pub deal_in : Graph → List Event → (line : List StandingBlock) → (own : StandingBlock) → Option (List Event)
deal_in graph events line own = option_map (resting_block_legs graph events own) (find (can_trade_blocks graph events own) line)
