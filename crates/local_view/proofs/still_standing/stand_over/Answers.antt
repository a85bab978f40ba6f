use Rattle.std.proofs.Common.{arith, below_more, get_or, sym}
use Rattle.zone_graph.proofs.Places.{at_place, place_of}
use Rattle.local_view.proofs.still_standing.stand_over.Goals as goal

pub stands_over-requires-clause-border : goal.stands_over-requires-clause-border
stands_over-requires-clause-border c =
    c.requires.changed (get_or c.args.changed.now c.loop-place.place 0) (at_place c.args.changed.now c.loop-place.place 0 c.loop-place-test.true)

pub loop-place-preserved : goal.loop-place-preserved
loop-place-preserved c = below_more _ _ c.loop-place.invariant (c.stands_over.ensures c.if-not-stands_over.false)

pub returns : goal.returns
returns c = λ is arc i.
    let place = place_of arc.border c.args.changed.now 0 i in
    let within = place.1 in
    let end = c.loop-place-test.false in
    c.loop-place.invariant place.0 (omega (arith, within, end)) arc (sym place.2)
