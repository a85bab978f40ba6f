use Rattle.std.proofs.Common.{◌∙◌, ap, sym, nat_lt}
use Rattle.market_model.specs.Orders.{left}
use Rattle.market_model.specs.Refusals.{is_below_left}
use Rattle.plain_refusals.proofs.orders.is_below_left.Goals as goal

pub returns-in-Some : goal.returns-in-Some
returns-in-Some c =
    ap (nat_lt c.args.to) (c.left.ensures ∙ ap (left c.args.events.now) c.name.ensures)
    ∙ sym (ap (is_below_left c.args.events.now c.args.to) (sym c.own_limit.ensures ∙ c.in-Some.is))
