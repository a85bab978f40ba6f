-- The deals of blocks of a book, within the rooms of a period.
use Rattle.std.specs.Prelude.{ℕ, Bool, List, Option, if◌then◌else◌}
use Rattle.std.specs.List.{find}
use Rattle.std.specs.Option.{option_map}
use Rattle.std.specs.Ordering.{is_lt, nat_cmp, ordering_then}
use Rattle.order_kinds.specs.declared.side.Side.TheVariants.{Buy}
use Rattle.order_kinds.specs.Side.{opposite}
use Rattle.zone_graph.specs.declared.route.Arc.{Arc}
use Rattle.zone_graph.specs.Graph.{Graph}
use Rattle.block_book.specs.declared.block.RestingBlock.{RestingBlock}
use Rattle.block_book.specs.Book.{line_of}
use Rattle.market_model.specs.Sweep.{first_answer}
use Rattle.block_match.specs.declared.deal.BlockDeal.{BlockDeal}
use Rattle.block_match.specs.Meeting.{can_trade, legs_between}

-- the partner of a block: the first of the opposite line of its period that it can trade with
abbrev pub partner_of : Graph → (Arc → ℕ) → (book : List RestingBlock) → (own : RestingBlock) → Option RestingBlock
partner_of graph room book own = find (can_trade graph room own) (line_of book own.last (opposite own.side))

-- the deal of a taker with a maker: at the maker's price
abbrev pub deal_with : Graph → (Arc → ℕ) → (taker maker : RestingBlock) → BlockDeal
deal_with graph room taker maker = record {
  taker = taker.number;
  maker = maker.number;
  price = maker.price;
  legs = legs_between graph room taker maker;
}

-- the deal of a block, which takes, with its partner, where it has one
abbrev pub deal_of_block : Graph → (Arc → ℕ) → (book : List RestingBlock) → (own : RestingBlock) → Option BlockDeal
deal_of_block graph room book own = option_map (deal_with graph room own) (partner_of graph room book own)

-- a block was there earlier than another: at the earlier moment, or the same with the smaller number
abbrev pub is_earlier : (one other : RestingBlock) → Bool
is_earlier one other = is_lt (ordering_then (nat_cmp one.moment other.moment) (nat_cmp one.number other.number))

-- the deal of two resting blocks: the one that was there earlier is the maker
abbrev pub resting_deal : Graph → (Arc → ℕ) → (buy sell : RestingBlock) → BlockDeal
resting_deal graph room buy sell = if is_earlier buy sell then deal_with graph room sell buy else deal_with graph room buy sell

-- the deal of a resting buy block with its partner, where it has one
abbrev pub deal_of_buy : Graph → (Arc → ℕ) → (book : List RestingBlock) → (buy : RestingBlock) → Option BlockDeal
deal_of_buy graph room book buy = option_map (resting_deal graph room buy) (partner_of graph room book buy)

-- the deal of a period: of the first buy block in priority that has a partner
abbrev pub deal_of_period : Graph → (Arc → ℕ) → (book : List RestingBlock) → (last : ℕ) → Option BlockDeal
deal_of_period graph room book last = first_answer (deal_of_buy graph room book) (line_of book last Buy)
