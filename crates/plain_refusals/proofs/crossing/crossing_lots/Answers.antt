use Rattle.plain_refusals.proofs.Crosses.{iceberg-by}
use Rattle.plain_refusals.proofs.crossing.crossing_lots.Goals as goal

pub returns-in-Iceberg-clause-lots : goal.returns-in-Iceberg-clause-lots
returns-in-Iceberg-clause-lots c =
    iceberg-by c.args.taker.now c.args.other.now c.order-order.result c.filled.result c.left.result c.crossing_peaks.result c.in-Iceberg.peak c.in-Iceberg.delta
    c.order-order.ensures c.filled.ensures c.left.ensures c.in-Iceberg.is c.crossing_peaks.ensures.lots
