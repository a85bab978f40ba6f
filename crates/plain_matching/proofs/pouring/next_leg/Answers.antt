use Rattle.std.proofs.Common.{◌∙◌, Some, None, ap, sym, arith}
use Rattle.zone_graph.specs.Graph.{HasArc}
use Rattle.zone_graph.specs.Rooms.{room_of}
use Rattle.market_model.specs.Orders.{left}
use Rattle.cut_proof.proofs.Carrying.{best_route-arcs}
use Rattle.plain_matching.proofs.BlockLegs.{leg-here, nothing-left}
use Rattle.plain_matching.proofs.pouring.next_leg.Goals as goal

pub returns-then-lots-eq0-clause-leg : goal.returns-then-lots-eq0-clause-leg
returns-then-lots-eq0-clause-leg c =
    nothing-left c.args.grid.now c.args.events.now c.args.taker.now c.args.maker.now c.left-lots.result
    (c.left-lots.ensures ∙ ap (left c.args.events.now) c.name.ensures) c.if-lots-eq0.true

pub leg_over-requires : goal.leg_over-requires
leg_over-requires c = record {
  arcs = λ arc i.
      let known : HasArc c.args.grid.now arc =
      best_route-arcs c.args.grid.now (room_of c.in_ok-rooms.rooms) c.seller_zone-seller.result c.buyer_zone-buyer.result c.in-Some.route
      c.zones-zones.ensures.grid.is_graph (sym c.in_ok-route.ensures ∙ c.in-Some.is) arc i in
      omega (arith, known, c.in_ok-rooms.ensures.size);
}

pub returns-in-Some-clause-leg : goal.returns-in-Some-clause-leg
returns-in-Some-clause-leg c =
    ap Some c.leg_over.ensures
    ∙ leg-here c.args.grid.now c.args.events.now c.args.taker.now c.args.maker.now c.order-order.result c.in_ok-rooms.rooms c.left-lots.result
    c.seller_zone-seller.result c.buyer_zone-buyer.result (Some c.in-Some.route) c.zones-zones.ensures.grid.is_graph c.order-order.ensures c.in_ok-rooms.ensures.rooms
    (c.left-lots.ensures ∙ ap (left c.args.events.now) c.name.ensures) (omega (arith, c.if-lots-eq0.false))
    c.seller_zone-seller.ensures c.buyer_zone-buyer.ensures (sym c.in-Some.is ∙ c.in_ok-route.ensures)

pub returns-clause-leg : goal.returns-clause-leg
returns-clause-leg c =
    leg-here c.args.grid.now c.args.events.now c.args.taker.now c.args.maker.now c.order-order.result c.in_ok-rooms.rooms c.left-lots.result
    c.seller_zone-seller.result c.buyer_zone-buyer.result None c.zones-zones.ensures.grid.is_graph c.order-order.ensures c.in_ok-rooms.ensures.rooms
    (c.left-lots.ensures ∙ ap (left c.args.events.now) c.name.ensures) (omega (arith, c.if-lots-eq0.false))
    c.seller_zone-seller.ensures c.buyer_zone-buyer.ensures (sym c.in-None.is ∙ c.in_ok-route.ensures)
