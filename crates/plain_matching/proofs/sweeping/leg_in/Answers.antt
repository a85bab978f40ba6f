use Rattle.std.proofs.Common.{◌≡◌, ◌∙◌, IfOk, ap, subst, sym}
use Rattle.order_kinds.specs.declared.side.Side.TheVariants.{Buy, Sell}
use Rattle.market_model.specs.Lines.{line}
use Rattle.plain_orders.specs.Listed.{first_price}
use Rattle.plain_matching.specs.Over.{AreBuys, AreInZones, AreRoomsFor, IsBestOfSells}
use Rattle.plain_matching.proofs.Apart.{best-sell, is-buy, no_crossing}
use Rattle.plain_matching.proofs.Here.{legs-here}
use Rattle.plain_matching.proofs.Orders.{line-zones, lines-are}
use Rattle.plain_matching.proofs.sweeping.leg_in.Goals as goal

pub returns-then-not-best_cross-clause-leg : goal.returns-then-not-best_cross-clause-leg
returns-then-not-best_cross-clause-leg c =
    sym (no_crossing c.args.grid.now c.args.events.now c.args.contract c.args.best.buy c.args.best.sell
    (c.requires.best.buy ∙ ap first_price (lines-are c.args.grid.now c.args.events.now c.args.orders.now c.args.contract Buy c.requires.legal c.requires.orders))
    (c.requires.best.sell ∙ ap first_price (lines-are c.args.grid.now c.args.events.now c.args.orders.now c.args.contract Sell c.requires.legal c.requires.orders))
    (sym c.if-not-best_cross.ensures))

pub first_leg-requires-clause-buys : goal.first_leg-requires-clause-buys
first_leg-requires-clause-buys c =
    let are = c.in_ok-buys.ensures ∙ lines-are c.args.grid.now c.args.events.now c.args.orders.now c.args.contract Buy c.requires.legal c.requires.orders in
    subst (AreInZones c.args.grid.now) (sym (c.as_slice.ensures.value ∙ are)) (line-zones c.args.grid.now c.args.events.now c.args.contract Buy c.requires.legal)

pub first_leg-requires-clause-sides : goal.first_leg-requires-clause-sides
first_leg-requires-clause-sides c =
    let are = c.in_ok-buys.ensures ∙ lines-are c.args.grid.now c.args.events.now c.args.orders.now c.args.contract Buy c.requires.legal c.requires.orders in
    subst AreBuys (sym (c.as_slice.ensures.value ∙ are)) (record { each = is-buy c.args.events.now c.args.contract })

pub first_leg-requires-clause-best : goal.first_leg-requires-clause-best
first_leg-requires-clause-best c =
    let are = lines-are c.args.grid.now c.args.events.now c.args.orders.now c.args.contract Sell c.requires.legal c.requires.orders in
    subst (λ best. IsBestOfSells best c.as_slice-2.result.now) (sym (c.requires.best.sell ∙ ap first_price are))
    (subst (IsBestOfSells (first_price (line c.args.events.now c.args.contract Sell))) (sym (c.as_slice-2.ensures.value ∙ c.in_ok-sells.ensures ∙ are))
    (best-sell c.args.events.now c.args.contract))

pub first_leg-requires-clause-sells : goal.first_leg-requires-clause-sells
first_leg-requires-clause-sells c =
    let are = c.in_ok-sells.ensures ∙ lines-are c.args.grid.now c.args.events.now c.args.orders.now c.args.contract Sell c.requires.legal c.requires.orders in
    subst (AreInZones c.args.grid.now) (sym (c.as_slice-2.ensures.value ∙ are)) (line-zones c.args.grid.now c.args.events.now c.args.contract Sell c.requires.legal)

pub returns-clause-leg : goal.returns-clause-leg
returns-clause-leg c =
    let are_buys = c.in_ok-buys.ensures ∙ lines-are c.args.grid.now c.args.events.now c.args.orders.now c.args.contract Buy c.requires.legal c.requires.orders in
    let are_sells = c.in_ok-sells.ensures ∙ lines-are c.args.grid.now c.args.events.now c.args.orders.now c.args.contract Sell c.requires.legal c.requires.orders in
    let are : AreRoomsFor c.args.grid.now c.args.events.now c.args.contract c.in_ok-rooms.rooms =
    record { size = c.in_ok-rooms.ensures.size; rooms = c.in_ok-rooms.ensures.rooms } in
    subst (λ v. IfOk c.first_leg.result (λ leg. leg ≡ v))
    (legs-here c.args.grid.now c.zones-zones.ensures.grid.is_graph c.args.events.now c.args.contract c.in_ok-rooms.rooms are c.as_slice.result.now c.as_slice-2.result.now
    (c.as_slice.ensures.value ∙ are_buys) (c.as_slice-2.ensures.value ∙ are_sells))
    c.first_leg.ensures
