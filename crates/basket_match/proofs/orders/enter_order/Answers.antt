use Rattle.std.proofs.Common.{◌∙◌, List, ap, set, sym}
use Rattle.market_model.specs.declared.command.Command.TheVariants as command
use Rattle.market_model.specs.declared.event.Event.{Event}
use Rattle.market_model.specs.History.{events_of}
use Rattle.market_model.specs.Market.{reply_to}
use Rattle.joint_plan.specs.Desk.{planning}
use Rattle.basket_match.specs.Orders.{of_basket}
use Rattle.basket_match.proofs.OneOrder.{on-desk, same-events}
use Rattle.basket_match.proofs.orders.enter_order.Goals as goal

pub returns-clause-reply : goal.returns-clause-reply
returns-clause-reply g c = λ desk at.
    c.of_basket.ensures ∙ ap (of_basket c.args.order.now.contract.hour) (c.in_ok-reply.ensures.reply desk at)
    ∙ on-desk c.args.setup.now c.args.grid.now c.args.caller c.args.order.now desk (c.requires.can desk at)

pub returns-clause-planned : goal.returns-clause-planned
returns-clause-planned g c = λ desk at.
    c.in_ok-reply.ensures.planned desk at
    ∙ ap (λ (events : List Event). set (g.D.Desks.desks c.args.row.now) c.args.i (planning desk events))
    (sym (same-events c.args.order.now.contract.hour (reply_to c.args.setup.now desk.settled c.args.caller (command.Enter c.args.order.now))) ∙ ap events_of (on-desk c.args.setup.now c.args.grid.now c.args.caller c.args.order.now desk (c.requires.can desk at)))
