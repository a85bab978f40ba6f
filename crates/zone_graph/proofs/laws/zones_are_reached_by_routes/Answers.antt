use Rattle.zone_graph.proofs.BestRoute.{reaches-route, route-reaches}
use Rattle.zone_graph.proofs.laws.zones_are_reached_by_routes.Goals as goal

pub returns : goal.returns
returns c = λ graph room from to is.
    (λ arcs. reaches-route graph room from to arcs is, route-reaches graph room from to is)
