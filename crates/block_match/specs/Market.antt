-- The market's own deals: a deal as the market's legs, over the book of a history.
use Rattle.std.specs.Prelude.{◌≡◌, ℕ, true, List, map, Option}
use Rattle.std.specs.Option.{option_map}
use Rattle.order_kinds.specs.declared.order.BlockOrder.{BlockOrder}
use Rattle.order_kinds.specs.Period.{block_quarters}
use Rattle.zone_graph.specs.declared.route.Arc.{Arc}
use Rattle.zone_graph.specs.declared.route.RouteLeg.{RouteLeg}
use Rattle.zone_graph.specs.Graph.{Graph}
use Rattle.zone_graph.specs.Route.{IsIn}
use Rattle.block_book.specs.declared.block.RestingBlock.{RestingBlock}
use Rattle.market_model.specs.declared.event.Event.{Event}
use Rattle.market_model.specs.declared.event.Event.TheVariants as event
use Rattle.market_model.specs.declared.setup.Setup.{Setup}
use Rattle.market_model.specs.Blocks.{block_deal, block_legs, block_partner, standing_block, with_block}
use Rattle.market_model.specs.Grid.{graph_of}
use Rattle.market_model.specs.Orders.{PlacedBlock, blocks_placed, is_open, next_name}
use Rattle.market_model.specs.Room.{room}
use Rattle.market_model.specs.WellFormed.{BlockEnters, IsHistory, IsMarketSetup}
use Rattle.laws_of_books.specs.BlocksOf.{blocks_of, resting_block}
use Rattle.block_match.specs.declared.deal.BlockDeal.{BlockDeal}
use Rattle.block_match.specs.Deals.{deal_of_block, deal_of_period, partner_of}

-- the rooms after a history over a whole period
abbrev pub rooms_over : List Event → (first last : ℕ) → Arc → ℕ
rooms_over events first last = room events (block_quarters first last)

-- the legs of a deal of a period as the market's events
abbrev pub leg_event : (first last : ℕ) → BlockDeal → RouteLeg → Event
leg_event first last deal leg = event.BlockLeg first last (record {
  taker = record { hour = first; number = deal.taker };
  maker = record { hour = first; number = deal.maker };
  lots = leg.lots;
  price = deal.price;
  route = leg.route;
})

abbrev pub deal_events : (first last : ℕ) → BlockDeal → List Event
deal_events first last deal = map (leg_event first last deal) deal.legs

-- a block finds in a book the partner that it finds in the market, and the legs of its deal are those
-- of the pour between the two
pub record IsMarketDeal (graph : Graph) (events : List Event) (own : PlacedBlock) (room : Arc → ℕ) (book : List RestingBlock) : Type 0 where
  pub found : Option PlacedBlock
  pub in_market : block_partner graph events (standing_block events own) ≡ option_map (standing_block events) found
  pub in_book : partner_of graph room book (resting_block events own) ≡ option_map (resting_block events) found
  pub legs : option_map (λ maker. block_legs graph (standing_block events own) maker events) (block_partner graph events (standing_block events own))
      ≡ option_map (deal_events own.order.first own.order.last) (deal_of_block graph room book (resting_block events own))

-- so does every open block after a well-formed history, in the book of the blocks that start with it
abbrev pub OpenBlocksDealAsInTheMarket : Type 0
OpenBlocksDealAsInTheMarket = (setup : Setup) (events : List Event) (own : PlacedBlock) → IsMarketSetup setup → IsHistory setup events
    → IsIn own (blocks_placed events) → is_open events own.name ≡ true
    → IsMarketDeal (graph_of setup) events own (rooms_over events own.order.first own.order.last) (blocks_of events own.order.first)

-- a block that enters
abbrev pub entered_block : List Event → (caller : ℕ) → BlockOrder → PlacedBlock
entered_block events caller order = record { name = next_name events order.first; caller = caller; order = order }

-- and so does every block that enters, in the book and the rooms as they were before
abbrev pub EnteringBlocksDealAsInTheMarket : Type 0
EnteringBlocksDealAsInTheMarket = (setup : Setup) (events : List Event) (caller : ℕ) (order : BlockOrder) → IsMarketSetup setup → IsHistory setup events
    → BlockEnters setup events (next_name events order.first) caller order
    → IsMarketDeal (graph_of setup) (with_block events caller order) (entered_block events caller order)
    (rooms_over events order.first order.last) (blocks_of events order.first)

-- and the next deal of a period is the market's
abbrev pub PeriodsDealAsInTheMarket : Type 0
PeriodsDealAsInTheMarket = (setup : Setup) (events : List Event) (first last : ℕ) → IsMarketSetup setup → IsHistory setup events
    → block_deal (graph_of setup) first last events
    ≡ option_map (deal_events first last) (deal_of_period (graph_of setup) (rooms_over events first last) (blocks_of events first) last)
