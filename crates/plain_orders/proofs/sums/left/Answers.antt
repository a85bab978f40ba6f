use Rattle.std.proofs.Common.{◌∙◌, ap, arith}
use Rattle.std.proofs.lemmas.List.{take_all}
use Rattle.market_model.specs.Orders as orders
use Rattle.plain_orders.proofs.Near.{near-left, near-left-at}
use Rattle.plain_orders.proofs.sums.left.Goals as goal

pub overflow_add-left : goal.overflow_add-left
overflow_add-left c =
    let at = near-left-at c.args.events.now c.near-event-items.result.now c.loop-event.event-index c.event-item.result c.args.name c.requires.history c.near-event-items.ensures c.loop-event-test.true c.event-item.is in
    omega (arith, at.0.most, c.loop-event.invariant, c.entered_lots.ensures)

pub overflow_sub-left : goal.overflow_sub-left
overflow_sub-left c =
    let at = near-left-at c.args.events.now c.near-event-items.result.now c.loop-event.event-index c.event-item.result c.args.name c.requires.history c.near-event-items.ensures c.loop-event-test.true c.event-item.is in
    omega (arith, at.0.has, c.loop-event.invariant, c.entered_lots.ensures, c.lost_lots.ensures)

pub loop-event-preserved : goal.loop-event-preserved
loop-event-preserved c =
    let at = near-left-at c.args.events.now c.near-event-items.result.now c.loop-event.event-index c.event-item.result c.args.name c.requires.history c.near-event-items.ensures c.loop-event-test.true c.event-item.is in
    omega (arith, at.0.is, at.1, c.loop-event.invariant, c.entered_lots.ensures, c.lost_lots.ensures)

pub returns : goal.returns
returns c =
    c.loop-event.invariant
    ∙ ap (λ es. orders.left es c.args.name) (take_all c.loop-event.event-index c.near-event-items.result.now c.loop-event-test.false)
    ∙ near-left c.args.events.now c.near-event-items.result.now c.args.name c.requires.history c.near-event-items.ensures
