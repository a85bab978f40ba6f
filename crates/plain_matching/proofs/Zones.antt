-- The zones of the two orders of a trade, and what is in reach.
use Rattle.std.proofs.Common.{◌≡◌, ◌∙◌, ℕ, ◌&&◌, false, List, Option, Some, None, refl, ap}
use Rattle.std.specs.List.{find, list_any}
use Rattle.order_kinds.specs.declared.side.Side.{Side}
use Rattle.order_kinds.specs.declared.side.Side.TheVariants.{Buy, Sell}
use Rattle.zone_graph.specs.declared.route.Arc.{Arc}
use Rattle.zone_graph.specs.Graph.{Graph, HasZone, IsGraph}
use Rattle.zone_graph.specs.Reach.{reaches}
use Rattle.zone_graph.proofs.Finding.{from_find}
use Rattle.cut_proof.specs.Cut.{reaches_in}
use Rattle.cut_proof.specs.Distance.{AreDistances, directed_room}
use Rattle.cut_proof.proofs.Reaching.{distance_tells}
use Rattle.market_model.specs.Lines.{buyer_zone, can_trade, seller_zone}
use Rattle.market_model.specs.Orders.{Standing}
use Rattle.laws_of_market.proofs.Restrict.{find-same}
use Rattle.laws_of_market.proofs.Replaced.{on}
use Rattle.plain_matching.specs.Over.{AreInZones, crosses_price, is_buy, is_in_reach, partner_in}
use Rattle.plain_matching.proofs.Places.{find-nothing}

-- the zones that a route joins with the zone of an order are those of its partners
reached-is : (graph : Graph) (room : Arc → ℕ) (own other : Standing)
    → reaches_in graph room other.order.zone own.order.zone (is_buy own.order.side) ≡ reaches graph room (seller_zone own other) (buyer_zone own other)
unfolding on
reached-is graph room own other = by own.order.side
  where
    by : (side : Side)
        → reaches_in graph room other.order.zone own.order.zone (is_buy side) ≡ reaches graph room (seller_zone (on side own) other) (buyer_zone (on side own) other)
    by Buy = refl
    by Sell = refl

-- the first order in reach is the partner
pub found-partner : (graph : Graph) (room : Arc → ℕ) (distances : List (Option ℕ)) (line : List Standing) (own : Standing) → IsGraph graph
    → AreDistances graph (directed_room room (is_buy own.order.side)) own.order.zone distances → find (is_in_reach distances own) line ≡ partner_in graph room line own
found-partner graph room distances line own is are =
    find-same (is_in_reach distances own) (can_trade graph room own) line
    (λ other i. ap (λ b. crosses_price own other && b)
    (distance_tells graph room own.order.zone (is_buy own.order.side) distances other.order.zone is are ∙ reached-is graph room own other))

-- there is no partner where no price crosses
pub no_partner : (graph : Graph) (room : Arc → ℕ) (line : List Standing) (own : Standing) → list_any (crosses_price own) line ≡ false
    → partner_in graph room line own ≡ None
no_partner graph room line own none =
    find-nothing (can_trade graph room own) (crosses_price own) line
    (λ other apart. ap (λ b. b && reaches graph room (seller_zone own other) (buyer_zone own other)) apart) none

-- the zone of a partner in a line is there
pub partner-known : (graph : Graph) (room : Arc → ℕ) (line : List Standing) (own other : Standing) → AreInZones graph line
    → partner_in graph room line own ≡ Some other → HasZone graph other.order.zone
partner-known graph room line own other in_zones found = in_zones.each other (from_find (can_trade graph room own) other line found).0
