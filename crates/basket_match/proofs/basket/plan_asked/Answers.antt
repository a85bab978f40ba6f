use Rattle.std.proofs.Common.{◌∙◌, sym}
use Rattle.basket_match.proofs.Baskets.{basket-closed}
use Rattle.basket_match.proofs.basket.plan_asked.Goals as goal

pub returns-in-Some-clause-reply : goal.returns-in-Some-clause-reply
returns-in-Some-clause-reply g c = λ history is.
    c.refuse.ensures.reply
    ∙ sym (basket-closed c.args.setup.now c.args.grid.now c.args.caller c.args.orders.now (g.D.Desks.desks c.args.row.now) c.requires.asked history is c.in-Some.refusal c.in-Some.ensures)
