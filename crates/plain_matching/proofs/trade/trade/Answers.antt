use Rattle.std.proofs.Common.{◌∙◌, sym, arith}
use Rattle.zone_graph.specs.Graph.{HasArc}
use Rattle.zone_graph.specs.Rooms.{room_of}
use Rattle.cut_proof.proofs.Carrying.{best_route-arcs}
use Rattle.plain_matching.proofs.trade.trade.Goals as goal

pub leg_over-requires : goal.leg_over-requires
leg_over-requires c = record {
  arcs = λ arc i.
      let known : HasArc c.args.grid.now arc =
      best_route-arcs c.args.grid.now (room_of c.args.rooms.now) c.seller_zone-seller.result c.buyer_zone-buyer.result c.in-Some.route
      c.zones-count.ensures.grid.is_graph (sym c.in_ok-route.ensures ∙ c.in-Some.is) arc i in
      omega (arith, known, c.requires.size);
}
