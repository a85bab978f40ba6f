-- How a partner is sought: along the line of the block's own quantity, as far as prices cross. No
-- public clause cites this module.
use Rattle.std.specs.Prelude.{ℕ, List, [], ◌∷◌, filter, Option, Some, None, if◌then◌else◌}
use Rattle.std.specs.Option.{option_map}
use Rattle.order_kinds.specs.Side.{opposite}
use Rattle.zone_graph.specs.declared.route.Arc.{Arc}
use Rattle.zone_graph.specs.declared.route.RouteLeg.{RouteLeg}
use Rattle.zone_graph.specs.Graph.{Graph}
use Rattle.block_book.specs.declared.block.RestingBlock.{RestingBlock}
use Rattle.block_book.specs.Book.{has_number, quantity_line}
use Rattle.block_match.specs.declared.deal.BlockDeal.{BlockDeal}
use Rattle.block_match.specs.declared.partner.Partner.{Partner}
use Rattle.block_match.specs.Deals.{is_earlier, partner_of}
use Rattle.block_match.specs.Meeting.{is_crossed, legs_between}

-- the line in which a block seeks its partner: the opposite one of its period and quantity
abbrev pub opposite_line : (book : List RestingBlock) → (own : RestingBlock) → List RestingBlock
opposite_line book own = quantity_line book own.last own.quantity (opposite own.side)

-- a block that is found, if the price of another one crosses it
abbrev pub if_crossed : (own : RestingBlock) → Option RestingBlock → Option RestingBlock
if_crossed own None = None
if_crossed own (Some other) = if is_crossed own other then Some other else None

-- the blocks of the line that the block's price crosses
abbrev pub crossed_line : (book : List RestingBlock) → (own : RestingBlock) → List RestingBlock
crossed_line book own = filter (is_crossed own) (opposite_line book own)

-- a block and the legs with it
abbrev pub with_legs : Graph → (Arc → ℕ) → (own other : RestingBlock) → Partner
with_legs graph room own other = record { block = other; legs = legs_between graph room own other }

-- the partner of a block, with the legs between the two
abbrev pub partner_with_legs : Graph → (Arc → ℕ) → (book : List RestingBlock) → (own : RestingBlock) → Option Partner
partner_with_legs graph room book own = option_map (with_legs graph room own) (partner_of graph room book own)

-- the deal of a taker with a maker over the legs between them
abbrev pub deal_over : (taker maker : RestingBlock) → List RouteLeg → BlockDeal
deal_over taker maker legs = record { taker = taker.number; maker = maker.number; price = maker.price; legs = legs }

-- the deal of a resting buy block with its partner, over the legs between them
abbrev pub resting_deal_over : (buy sell : RestingBlock) → List RouteLeg → BlockDeal
resting_deal_over buy sell legs = if is_earlier buy sell then deal_over sell buy legs else deal_over buy sell legs

-- the part of a line from the block of a number on, and from a block that was found in it
abbrev pub from_number : (number : ℕ) → List RestingBlock → List RestingBlock
from_number number [] = []
from_number number (block ∷ line) = if has_number number block then (block ∷ line) else from_number number line

abbrev pub from_block : List RestingBlock → (found : Option RestingBlock) → List RestingBlock
from_block line None = []
from_block line (Some block) = from_number block.number line
