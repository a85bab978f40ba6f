use Rattle.std.proofs.Common.{◌≡◌, ◌∙◌, true, IfOk, refl, ap, subst, sym, arith}
use Rattle.order_kinds.specs.declared.order.Order.{Order}
use Rattle.order_kinds.specs.Contract.{is_known}
use Rattle.zone_graph.specs.Rooms.{room_of}
use Rattle.market_model.specs.Lines.{partner}
use Rattle.plain_orders.specs.Listed.{first_price}
use Rattle.plain_matching.specs.Over.{AreRoomsFor, other_line, partner_in}
use Rattle.plain_matching.proofs.Apart.{apart-leg}
use Rattle.plain_matching.proofs.Here.{leg-here, no_partner-leg, partner-here}
use Rattle.plain_matching.proofs.Orders.{IsSoundOrder, other_line-by, other_line-is, other_line-zones, own-sound}
use Rattle.plain_matching.proofs.Zones.{partner-known}
use Rattle.plain_matching.proofs.taking.leg_with_partner.Goals as goal
use Rattle.plain_matching.proofs.taking.leg_with_partner.Goals.{After-partner_among}

-- the rooms of its contract, and that the partner is the market's
its_rooms : (c : After-partner_among) → AreRoomsFor c.args.grid.now c.args.events.now c.args.own.now.order.contract c.in_ok-rooms.rooms
its_rooms c = subst (λ (o : Order). AreRoomsFor c.args.grid.now c.args.events.now o.contract c.in_ok-rooms.rooms) c.order-order.ensures
    (record { size = c.in_ok-rooms.ensures.size; rooms = c.in_ok-rooms.ensures.rooms })

its_partner : (c : After-partner_among)
    → partner_in c.args.grid.now (room_of c.in_ok-rooms.rooms) (other_line c.args.orders.now c.args.own.now) c.args.own.now ≡ partner c.args.grid.now c.args.events.now c.args.own.now
its_partner c =
    partner-here c.args.grid.now c.zones-zones.ensures.grid.is_graph c.args.events.now c.args.own.now.order.contract c.in_ok-rooms.rooms (its_rooms c)
    c.args.own.now (other_line c.args.orders.now c.args.own.now) refl
    (other_line-is c.args.grid.now c.args.events.now c.args.orders.now c.args.own.now c.requires.legal c.requires.orders)

pub prove-unreachable-requires : goal.prove-unreachable-requires
prove-unreachable-requires c =
    let sound : IsSoundOrder c.args.grid.now c.args.own.now =
    own-sound c.args.grid.now c.args.events.now c.args.orders.now c.args.own.now c.requires.legal c.requires.orders c.requires.own in
    omega (arith, sound.in_zone, c.if-prove.true, c.zones-zones.ensures.count, ap (λ (o : Order). o.zone) c.order-order.ensures)

pub returns-then-not-crosses_best-clause-leg : goal.returns-then-not-crosses_best-clause-leg
returns-then-not-crosses_best-clause-leg c =
    apart-leg c.args.grid.now c.args.events.now c.args.own.now c.best_price.result
    (c.best_price.ensures
    ∙ ap first_price (other_line-by c.args.orders.now c.args.own.now c.order-order.result c.opposite-side.result c.order-order.ensures c.opposite-side.ensures
    ∙ other_line-is c.args.grid.now c.args.events.now c.args.orders.now c.args.own.now c.requires.legal c.requires.orders))
    (sym c.if-not-crosses_best.ensures)

pub contract_rooms_over-requires-clause-part : goal.contract_rooms_over-requires-clause-part
contract_rooms_over-requires-clause-part c =
    subst (λ (o : Order). is_known o.contract.part ≡ true) (sym c.order-order.ensures)
    (own-sound c.args.grid.now c.args.events.now c.args.orders.now c.args.own.now c.requires.legal c.requires.orders c.requires.own).in_part

pub trade-requires-clause-maker : goal.trade-requires-clause-maker
trade-requires-clause-maker c =
    partner-known c.args.grid.now (room_of c.in_ok-rooms.rooms) (other_line c.args.orders.now c.args.own.now) c.args.own.now c.in-Some.maker
    (other_line-zones c.args.grid.now c.args.events.now c.args.orders.now c.args.own.now c.requires.legal c.requires.orders) (sym c.in-Some.ensures)

pub returns-in-Some-clause-leg : goal.returns-in-Some-clause-leg
returns-in-Some-clause-leg c =
    let here = (goal.at.returns-in-Some-clause-leg c).After-partner_among in
    subst (λ v. IfOk c.trade.result (λ leg. leg ≡ v))
    (leg-here c.args.grid.now c.zones-zones.ensures.grid.is_graph c.args.events.now c.args.own.now.order.contract c.in_ok-rooms.rooms (its_rooms here)
    c.args.own.now c.in-Some.maker refl (sym (its_partner here) ∙ sym c.in-Some.ensures)) c.trade.ensures

pub returns-clause-leg : goal.returns-clause-leg
returns-clause-leg c =
    no_partner-leg c.args.grid.now c.args.events.now c.args.own.now
    (sym (its_partner (goal.at.returns-clause-leg c).After-partner_among) ∙ sym c.in-None.ensures)
