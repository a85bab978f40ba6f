use Rattle.zone_graph.proofs.BestRoute.{best_route-no_route, best_route-none}
use Rattle.zone_graph.proofs.laws.no_best_route_where_no_route_is.Goals as goal

pub returns : goal.returns
returns c = λ graph room from to is.
    (λ e arcs. best_route-none graph room from to arcs is e, best_route-no_route graph room from to is)
