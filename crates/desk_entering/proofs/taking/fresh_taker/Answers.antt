use Rattle.std.proofs.Common.{◌∙◌, sym, ap}
use Rattle.order_kinds.specs.declared.order.Order.{Order}
use Rattle.market_model.specs.Orders.{Placed}
use Rattle.match_core.specs.Takers.{taker_at}
use Rattle.desk_entering.proofs.Fresh.{price-fresh}
use Rattle.desk_entering.proofs.taking.fresh_taker.Goals as goal

pub returns : goal.returns
returns c = λ caller.
    let order : Order = c.args.order.now in
    let placed : Placed = record { name = record { hour = order.contract.hour; number = c.args.number }; caller = caller; order = order } in
    ap (λ ice. record (taker_at placed 0 order.quantity.0 c.args.moment) { price = order.price; ice = ice }) c.hidden_of.ensures
    ∙ ap (λ p. record (taker_at placed 0 order.quantity.0 c.args.moment) { price = p }) (sym (price-fresh order order.quantity.0))
