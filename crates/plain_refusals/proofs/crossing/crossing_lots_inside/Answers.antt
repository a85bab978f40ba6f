use Rattle.std.proofs.Common.{◌∙◌, ap, sum_by, sym}
use Rattle.std.proofs.lemmas.List.{take_all}
use Rattle.zone_graph.proofs.Places.{item_at_place}
use Rattle.plain_refusals.specs.Crossing.{lots_inside}
use Rattle.plain_refusals.proofs.Crosses.{inside-sum}
use Rattle.plain_refusals.proofs.crossing.crossing_lots_inside.Goals as goal

pub lots_inside-requires : goal.lots_inside-requires
lots_inside-requires c = c.requires.sound.each c.other-item.result (item_at_place c.args.line.now c.loop-other.other-index c.other-item.result c.loop-other-test.true c.other-item.is)

pub returns-clause-lots : goal.returns-clause-lots
returns-clause-lots c =
    c.loop-other.invariant.lots
    ∙ ap (sum_by (lots_inside c.args.taker.now c.args.zones.now)) (take_all c.loop-other.other-index c.args.line.now c.loop-other-test.false)
    ∙ sym (inside-sum c.args.taker.now c.args.zones.now c.args.line.now)
