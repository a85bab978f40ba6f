use Rattle.std.proofs.Common.{◌≡◌, ◌∙◌, ◌+◌, ◌<◌, ◌≤◌, ap, ap₂, arith}
use Rattle.order_kinds.specs.Order.{peak_count, peak_number}
use Rattle.order_kinds.specs.Side.{crosses}
use Rattle.zone_graph.specs.Pour.{lots_if}
use Rattle.desk_entering.specs.Crossing.{crossing_peak, crossing_peaks}
use Rattle.desk_entering.proofs.Peaks.{none-crosses, peaks-more, peaks-most, price-within, showing-within, start-within}
use Rattle.desk_entering.proofs.crossing.crossing_peaks.Goals as goal

pub loop-number-init : goal.loop-number-init
loop-number-init c =
    let none = none-crosses c.args.order.now c.args.ice c.requires.sound c.requires.some c.args.taker.now in cc

pub price_of_peak-price-requires : goal.price_of_peak-price-requires
price_of_peak-price-requires c =
    let low : peak_number c.args.ice.peak c.args.ice.filled ≤ c.loop-number.number = omega arith in
    let within : c.loop-number.number < peak_count (c.args.ice.filled + c.args.order.now.left) c.args.ice.peak = omega arith in
    price-within c.args.order.now c.args.ice c.requires.sound c.requires.some c.loop-number.number low within

pub peak_left-requires : goal.peak_left-requires
peak_left-requires c =
    let within : c.loop-number.number < peak_count (c.args.ice.filled + c.args.order.now.left) c.args.ice.peak = omega arith in
    let start = start-within c.args.order.now c.args.ice c.requires.sound c.requires.some c.loop-number.number within in
    omega (arith, start)

pub overflow_add-lots : goal.overflow_add-lots
overflow_add-lots c =
    let order = c.args.order.now in
    let taker = c.args.taker.now in
    let here : c.lots_if-lots.result ≡ crossing_peak taker order c.args.ice c.loop-number.number =
    c.lots_if-lots.ensures ∙ ap₂ lots_if (c.crosses.ensures ∙ ap (crosses taker.side taker.price) c.price_of_peak-price.ensures) c.peak_left.ensures in
    let more = peaks-more taker order c.args.ice c.loop-number.number in
    let most = peaks-most order c.args.ice c.requires.sound c.requires.some taker (c.loop-number.number + 1) in
    omega (arith, here, more, most, c.loop-number.invariant)

pub loop-number-preserved : goal.loop-number-preserved
loop-number-preserved c =
    let order = c.args.order.now in
    let taker = c.args.taker.now in
    let here : c.lots_if-lots.result ≡ crossing_peak taker order c.args.ice c.loop-number.number =
    c.lots_if-lots.ensures ∙ ap₂ lots_if (c.crosses.ensures ∙ ap (crosses taker.side taker.price) c.price_of_peak-price.ensures) c.peak_left.ensures in
    let more = peaks-more taker order c.args.ice c.loop-number.number in
    omega (arith, here, more, c.loop-number.invariant)

pub returns : goal.returns
returns c =
    let order = c.args.order.now in
    let showing = showing-within order c.args.ice c.requires.sound c.requires.some in
    let last : c.loop-number.number ≡ peak_count (c.args.ice.filled + order.left) c.args.ice.peak = omega (arith, showing) in
    c.loop-number.invariant ∙ ap (crossing_peaks c.args.taker.now order c.args.ice) last
