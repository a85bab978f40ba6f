-- The next leg of a pour, over rooms that are those of the period.
use Rattle.std.proofs.Common.{◌≡◌, ◌∙◌, ℕ, zero, suc, ◌≤◌, List, Option, Some, None, refl, sym, ap, arith}
use Rattle.std.specs.Option.{option_map}
use Rattle.order_kinds.specs.declared.order.BlockOrder.{BlockOrder}
use Rattle.order_kinds.specs.Period.{block_quarters}
use Rattle.zone_graph.specs.declared.route.Arc.{Arc}
use Rattle.zone_graph.specs.declared.route.RouteLeg.{RouteLeg}
use Rattle.zone_graph.specs.Graph.{Graph, HasArc, IsGraph}
use Rattle.zone_graph.specs.Pour.{pour_leg}
use Rattle.zone_graph.specs.Rooms.{room_of}
use Rattle.zone_graph.specs.Route.{best_route, carried}
use Rattle.zone_graph.proofs.BestRoute.{best_route-rooms}
use Rattle.cut_proof.proofs.Carrying.{carried-rooms, best_route-arcs}
use Rattle.market_model.specs.declared.event.Event.{Event}
use Rattle.market_model.specs.Blocks.{StandingBlock, block_buyer_zone, block_leg, block_leg_over, block_seller_zone}
use Rattle.market_model.specs.Orders.{left}
use Rattle.market_model.specs.Room.{room}
use Rattle.plain_matching.specs.Meeting.{leg_of}

-- a pour is the same where the rooms of the graph's arcs are
pour_leg-rooms : (graph : Graph) (rooms other : Arc → ℕ) (from to lots : ℕ) → IsGraph graph → ((arc : Arc) → HasArc graph arc → rooms arc ≡ other arc)
    → pour_leg graph rooms from to lots ≡ pour_leg graph other from to lots
pour_leg-rooms graph rooms other from to zero is same = refl
pour_leg-rooms graph rooms other from to (suc more) is same =
    go (best_route graph rooms from to) refl ∙ ap (option_map (over other)) (best_route-rooms graph rooms other from to is same)
  where
    over : (Arc → ℕ) → List Arc → RouteLeg
    over its route = record { route = route; lots = carried its (suc more) route }

    go : (o : Option (List Arc)) → best_route graph rooms from to ≡ o → option_map (over rooms) o ≡ option_map (over other) o
    go None found = refl
    go (Some route) found =
        ap (λ lots. Some (record { route = route; lots = lots }))
        (carried-rooms graph rooms other (suc more) route same (best_route-arcs graph rooms from to route is found))

-- the leg over the best route is that of the pour
leg-poured : (graph : Graph) (rooms : Arc → ℕ) (taker maker : StandingBlock) (from to lots : ℕ) → 1 ≤ lots
    → option_map (leg_of rooms taker maker lots) (best_route graph rooms from to) ≡ option_map (block_leg_over taker maker) (pour_leg graph rooms from to lots)
leg-poured graph rooms taker maker from to zero some = absurd (omega arith)
leg-poured graph rooms taker maker from to (suc more) some = go (best_route graph rooms from to)
  where
    go : (o : Option (List Arc)) → option_map (leg_of rooms taker maker (suc more)) o
        ≡ option_map (block_leg_over taker maker) (option_map (λ route. record { route = route; lots = carried rooms (suc more) route }) o)
    go None = refl
    go (Some route) = refl

pub nothing-left : (graph : Graph) (events : List Event) (taker maker : StandingBlock) (lots : ℕ) → lots ≡ left events taker.name → lots ≡ 0
    → None ≡ block_leg graph taker maker events
unfolding block_leg
nothing-left graph events taker maker lots of_lots none =
    ap (λ n. option_map (block_leg_over taker maker)
    (pour_leg graph (room events (block_quarters taker.order.first taker.order.last)) (block_seller_zone taker maker) (block_buyer_zone taker maker) n))
    (sym none ∙ of_lots)

pub leg-here : (graph : Graph) (events : List Event) (taker maker : StandingBlock) (order : BlockOrder) (made : List (ℕ × ℕ)) (lots seller buyer : ℕ)
    (found : Option (List Arc)) → IsGraph graph → order ≡ taker.order
    → ((arc : Arc) → HasArc graph arc → room_of made arc ≡ room events (block_quarters order.first order.last) arc)
    → lots ≡ left events taker.name → 1 ≤ lots → seller ≡ block_seller_zone taker maker → buyer ≡ block_buyer_zone taker maker
    → found ≡ best_route graph (room_of made) seller buyer
    → option_map (leg_of (room_of made) taker maker lots) found ≡ block_leg graph taker maker events
unfolding block_leg
leg-here graph events taker maker order made lots seller buyer found is of_order rooms of_lots some of_seller of_buyer is_found =
    ap (option_map (leg_of (room_of made) taker maker lots)) is_found
    ∙ leg-poured graph (room_of made) taker maker seller buyer lots some
    ∙ ap (option_map (block_leg_over taker maker)) (
    pour_leg-rooms graph (room_of made) (period order) seller buyer lots is rooms
    ∙ ap (λ (o : BlockOrder). pour_leg graph (period o) seller buyer lots) of_order
    ∙ ap (λ zone. pour_leg graph (period taker.order) zone buyer lots) of_seller
    ∙ ap (λ zone. pour_leg graph (period taker.order) (block_seller_zone taker maker) zone lots) of_buyer
    ∙ ap (λ n. pour_leg graph (period taker.order) (block_seller_zone taker maker) (block_buyer_zone taker maker) n) of_lots
    )
  where
    period : BlockOrder → Arc → ℕ
    period o = room events (block_quarters o.first o.last)
