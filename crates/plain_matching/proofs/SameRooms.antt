-- Partners and legs are the same where the rooms of the graph's arcs are.
use Rattle.std.proofs.Common.{◌≡◌, ◌∙◌, ℕ, ◌&&◌, List, min, Option, Some, None, refl, ap}
use Rattle.std.specs.Option.{option_map, is_some}
use Rattle.zone_graph.specs.declared.route.Arc.{Arc}
use Rattle.zone_graph.specs.Graph.{Graph, HasArc, IsGraph}
use Rattle.zone_graph.specs.Route.{best_route}
use Rattle.zone_graph.proofs.BestRoute.{best_route-rooms}
use Rattle.market_model.specs.declared.event.Event.{Event}
use Rattle.market_model.specs.Lines.{buyer_zone, can_trade, seller_zone}
use Rattle.market_model.specs.Orders.{Standing}
use Rattle.market_model.specs.Taking.{leg_over}
use Rattle.laws_of_market.proofs.Restrict.{find-same}
use Rattle.cut_proof.proofs.Carrying.{carried-rooms, best_route-arcs}
use Rattle.plain_matching.specs.Over.{crosses_price, partner_in, trade_over}

module _ (graph : Graph) (room other : Arc → ℕ) (is : IsGraph graph) (same : (arc : Arc) → HasArc graph arc → room arc ≡ other arc) where
  pub can_trade-rooms : (own another : Standing) → can_trade graph room own another ≡ can_trade graph other own another
  can_trade-rooms own another =
      ap (λ route. crosses_price own another && is_some route)
      (best_route-rooms graph room other (seller_zone own another) (buyer_zone own another) is same)

  pub partner_in-rooms : (line : List Standing) (own : Standing) → partner_in graph room line own ≡ partner_in graph other line own
  partner_in-rooms line own = find-same (can_trade graph room own) (can_trade graph other own) line (λ another i. can_trade-rooms own another)

  pub trade_over-rooms : (taker maker : Standing) → trade_over graph room taker maker ≡ trade_over graph other taker maker
  trade_over-rooms taker maker =
      go (best_route graph room (seller_zone taker maker) (buyer_zone taker maker)) refl
      ∙ ap (option_map (leg_over other taker maker)) (best_route-rooms graph room other (seller_zone taker maker) (buyer_zone taker maker) is same)
    where
      go : (o : Option (List Arc)) → best_route graph room (seller_zone taker maker) (buyer_zone taker maker) ≡ o
          → option_map (leg_over room taker maker) o ≡ option_map (leg_over other taker maker) o
      go None found = refl
      go (Some route) found =
          ap (λ lots. Some (leg_at lots route))
          (carried-rooms graph room other (min taker.shown maker.shown) route same
          (best_route-arcs graph room (seller_zone taker maker) (buyer_zone taker maker) route is found))
        where
          leg_at : (lots : ℕ) → List Arc → Event
          leg_at lots route = Rattle.market_model.specs.declared.event.Event.TheVariants.Leg taker.order.contract
              (record { taker = taker.name; maker = maker.name; lots = lots; price = maker.price; route = route })
