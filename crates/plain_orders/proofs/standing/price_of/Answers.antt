use Rattle.std.proofs.Common.{FitsSigned, w32, subst, sym}
use Rattle.order_kinds.specs.Order.{peak_price}
use Rattle.plain_orders.proofs.Changes.{filled-fits}
use Rattle.plain_orders.proofs.standing.price_of.Goals as goal

pub price_of_peak-requires : goal.price_of_peak-requires
price_of_peak-requires c =
    let order = c.args.order.now in
    subst (λ n. FitsSigned w32 (peak_price order.side order.price c.in-Iceberg.delta n).0) (sym c.number_now.ensures)
    (filled-fits order c.in-Iceberg.peak c.in-Iceberg.delta c.args.filled c.requires.sound c.in-Iceberg.is c.requires.most)
