use Rattle.zone_graph.proofs.BestRoute.{best_route-rooms}
use Rattle.zone_graph.proofs.laws.rooms_of_arcs_decide_the_best_route.Goals as goal

pub returns : goal.returns
returns c = best_route-rooms
