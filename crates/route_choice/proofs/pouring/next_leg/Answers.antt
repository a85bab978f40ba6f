use Rattle.std.proofs.Common.{◌≡◌, ◌∙◌, Some, sym, subst, arith}
use Rattle.zone_graph.specs.Rooms.{room_of}
use Rattle.zone_graph.specs.Route.{IsIn, best_route}
use Rattle.zone_graph.proofs.BestRoute.{best_route-is}
use Rattle.cut_proof.proofs.Ways.{way_has_arc}
use Rattle.route_choice.proofs.pouring.next_leg.Goals as goal

pub carried-lots-requires : goal.carried-lots-requires
carried-lots-requires c = record {
  arcs = λ arc i.
      let found : best_route c.args.grid.now (room_of c.args.rooms.now) c.args.from c.args.to ≡ Some c.in-Some.route = sym c.in_ok-route.ensures ∙ c.in-Some.is in
      let way = (best_route-is c.args.grid.now (room_of c.args.rooms.now) c.args.from c.args.to c.in-Some.route c.zones-zones.ensures.grid.is_graph found).route.way in
      let known = way_has_arc c.args.grid.now (room_of c.args.rooms.now) c.args.from c.args.to c.in-Some.route arc way
      (subst (IsIn arc) c.as_slice.ensures i) in
      omega (arith, known, c.requires.size);
}
