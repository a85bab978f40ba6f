use Rattle.zone_graph.proofs.BestRoute.{best_route-is, best_route-unique}
use Rattle.zone_graph.proofs.laws.no_route_beats_the_best.Goals as goal

pub returns : goal.returns
returns c = λ graph room from to arcs is.
    (best_route-is graph room from to arcs is, best_route-unique graph room from to arcs is)
