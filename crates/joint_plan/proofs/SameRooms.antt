-- The deal of a block depends on the rooms of the graph's arcs alone.
use Rattle.std.proofs.Common.{◌≡◌, ℕ, ◌==◌, ◌&&◌, false, List, Option, ap, if◌then◌else◌}
use Rattle.std.proofs.Math.Path.{fun_ext}
use Rattle.std.specs.List.{find}
use Rattle.std.specs.Option.{option_map}
use Rattle.order_kinds.specs.Side.{opposite}
use Rattle.zone_graph.specs.declared.route.Arc.{Arc}
use Rattle.zone_graph.specs.declared.route.RouteLeg.{RouteLeg}
use Rattle.zone_graph.specs.Graph.{Graph, HasArc, IsGraph}
use Rattle.route_choice.specs.Poured.{lots_of}
use Rattle.block_book.specs.declared.block.RestingBlock.{RestingBlock}
use Rattle.block_book.specs.Book.{line_of}
use Rattle.block_match.specs.declared.deal.BlockDeal.{BlockDeal}
use Rattle.block_match.specs.Deals.{deal_of_block}
use Rattle.block_match.specs.Meeting.{is_crossed, legs_between}
use Rattle.hour_desk.proofs.SameRooms.{pour-rooms}

-- the deal of a block, by the legs between two blocks
abbrev deal_by : (legs : RestingBlock → RestingBlock → List RouteLeg) → (book : List RestingBlock) → (own : RestingBlock) → Option BlockDeal
deal_by legs book own =
    option_map (λ maker. record { taker = own.number; maker = maker.number; price = maker.price; legs = legs own maker })
    (find (λ other. if (other.quantity == own.quantity) && is_crossed own other then lots_of (legs own other) == own.quantity else false) (line_of book own.last (opposite own.side)))

pub deal-rooms : (graph : Graph) → IsGraph graph → (one other : Arc → ℕ) (book : List RestingBlock) (own : RestingBlock) → ((arc : Arc) → HasArc graph arc → one arc ≡ other arc)
    → deal_of_block graph one book own ≡ deal_of_block graph other book own
deal-rooms graph is one other book own same =
    ap (λ legs. deal_by legs book own) between
  where
    between : legs_between graph one ≡ legs_between graph other
    between = fun_ext (λ (mine : RestingBlock). fun_ext (λ (another : RestingBlock). pour-rooms graph is one other _ _ mine.quantity same))
