-- Which blocks are passed over as a block looks for its partner, and that those for want of room
-- are ones to which nothing carries it.
use Rattle.std.specs.Prelude.{◌≡◌, ℕ, ◌<◌, true, List, [], ◌∷◌, ◌++◌, Option, Some, None}
use Rattle.order_kinds.specs.Period.{block_quarters}
use Rattle.order_kinds.specs.Side.{crosses, opposite}
use Rattle.zone_graph.specs.declared.route.Arc.{Arc}
use Rattle.zone_graph.specs.Graph.{Graph}
use Rattle.zone_graph.specs.Route.{IsIn}
use Rattle.market_model.specs.declared.event.Event.{Event}
use Rattle.market_model.specs.declared.setup.Setup.{Setup}
use Rattle.market_model.specs.Blocks.{StandingBlock, block_buyer_zone, block_line, block_partner, block_seller_zone, standing_block}
use Rattle.market_model.specs.Grid.{graph_of}
use Rattle.market_model.specs.Orders.{PlacedBlock, blocks_placed, is_open}
use Rattle.market_model.specs.Room.{room}
use Rattle.market_model.specs.WellFormed.{IsHistory, IsMarketSetup}
use Rattle.route_choice.specs.Flow.{IsFlow}

-- the first of some blocks
abbrev pub first_block : List StandingBlock → Option StandingBlock
first_block [] = None
first_block (block ∷ blocks) = Some block

-- two blocks would trade, if there was room: they are of one quantity, and their prices cross
pub record WouldTrade (own other : StandingBlock) : Type 0 where
  pub one_quantity : other.order.quantity ≡ own.order.quantity
  pub crossing : crosses own.order.side own.order.price other.order.price ≡ true

-- so many lots flow from the seller's zone to the buyer's, within the rooms over the whole period
abbrev pub IsBlockFlow : Graph → List Event → (own other : StandingBlock) → (lots : ℕ) → (Arc → ℕ) → Type 0
IsBlockFlow graph events own other lots flow =
    IsFlow graph (room events (block_quarters own.order.first own.order.last)) (block_seller_zone own other) (block_buyer_zone own other) lots flow

-- a block passes over the front of the opposite line of its period: its partner is the first block
-- behind it, where there is one; and to each that is passed over, and with which it would trade, no
-- flow carries its whole quantity
pub record PassesOver (graph : Graph) (events : List Event) (own : StandingBlock) : Type 0 where
  pub passed : List StandingBlock
  pub behind : List StandingBlock
  pub in_line : block_line events own.order.first own.order.last (opposite own.order.side) ≡ passed ++ behind
  pub is_partner : block_partner graph events own ≡ first_block behind
  pub no_flow : (other : StandingBlock) (lots : ℕ) (flow : Arc → ℕ) → IsIn other passed → WouldTrade own other → IsBlockFlow graph events own other lots flow
      → lots < own.order.quantity.0

-- after a well-formed history every open block passes others over only so
abbrev pub BlocksArePassedOverForWantOfRoom : Type 0
BlocksArePassedOverForWantOfRoom = (setup : Setup) (events : List Event) (own : PlacedBlock) → IsMarketSetup setup → IsHistory setup events
    → IsIn own (blocks_placed events) → is_open events own.name ≡ true → PassesOver (graph_of setup) events (standing_block events own)
