use Rattle.std.proofs.Common.{◌∙◌, sym, subst, arith}
use Rattle.zone_graph.specs.Graph.{HasArc}
use Rattle.zone_graph.specs.Rooms.{room_of}
use Rattle.zone_graph.specs.Route.{IsIn}
use Rattle.cut_proof.proofs.Carrying.{best_route-arcs}
use Rattle.plain_market.proofs.filling.fill_with.Goals as goal

pub carried-lots-requires : goal.carried-lots-requires
carried-lots-requires c = record {
  arcs = λ arc i.
      let known : HasArc c.args.grid.now arc =
      best_route-arcs c.args.grid.now (room_of c.args.rooms.now) c.seller_zone-seller.result c.buyer_zone-buyer.result c.in-Some.route
      c.zones-zones.ensures.grid.is_graph (sym c.in_ok-route.ensures ∙ c.in-Some.is) arc (subst (IsIn arc) c.as_slice.ensures i) in
      omega (arith, known, c.requires.size);
}
