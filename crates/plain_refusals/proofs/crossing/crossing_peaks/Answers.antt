use Rattle.std.proofs.Common.{◌≡◌, ◌∙◌, ◌+◌, ◌-◌, ◌/◌, ◌<◌, ◌≤◌, refl, ap, ap₂, arith}
use Rattle.order_kinds.specs.Order.{peak_count}
use Rattle.order_kinds.specs.Side.{crosses}
use Rattle.zone_graph.specs.Pour.{lots_if}
use Rattle.plain_orders.proofs.Changes.{peaks-sound}
use Rattle.plain_refusals.specs.Crossing.{crossing_peak, crossing_peaks}
use Rattle.plain_refusals.proofs.Crosses.{lots_if-most}
use Rattle.plain_refusals.proofs.Peaks.{part-fewer, peaks-more, price-within}
use Rattle.plain_refusals.proofs.crossing.crossing_peaks.Goals as goal

pub loop-number-init : goal.loop-number-init
unfolding crossing_peaks
loop-number-init c = record { lots = refl; most = omega arith }

pub price_of_peak-price-requires : goal.price_of_peak-price-requires
price_of_peak-price-requires c =
    let order = c.args.order.now in
    let peaks = peaks-sound order c.args.peak c.args.delta c.requires.sound c.requires.kind in
    let fewer = part-fewer (c.args.filled + c.args.left) order.quantity.0 c.args.peak.0 peaks.some c.requires.within in
    let last : c.number_now-number-end.result ≡ (c.args.filled + c.args.left - 1) / c.args.peak.0 =
    c.number_now-number-end.ensures ∙ ap (λ n. n / c.args.peak.0) c.saturating_sub.ensures in
    let within : c.loop-number.number < peak_count order.quantity.0 c.args.peak.0 = omega (arith, fewer, last) in
    price-within order c.args.peak c.args.delta c.requires.sound c.requires.kind c.loop-number.number within

pub loop-number-preserved : goal.loop-number-preserved
loop-number-preserved c =
    let order = c.args.order.now in
    let taker = c.args.taker.now in
    let crossing = c.crosses.ensures ∙ ap (crosses taker.side taker.price) c.price_of_peak-price.ensures in
    let here : c.lots_if-lots.result ≡ crossing_peak taker order c.args.peak.0 c.args.delta c.args.filled c.args.left c.loop-number.number =
    c.lots_if-lots.ensures ∙ ap₂ lots_if crossing c.peak_left.ensures.lots in
    let most : c.lots_if-lots.result ≤ c.peak_left.result = omega (arith, c.lots_if-lots.ensures, lots_if-most c.crosses.result c.peak_left.result) in
    let peaks = peaks-sound order c.args.peak c.args.delta c.requires.sound c.requires.kind in
    record {
      lots = omega (arith, here, peaks-more taker order c.args.peak.0 c.args.delta c.args.filled c.args.left c.loop-number.number, c.loop-number.invariant.lots);
      most = omega (arith, most, c.peak_left.ensures.most, peaks.most, c.requires.within, c.loop-number.invariant.most);
    }
