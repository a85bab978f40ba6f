use Rattle.laws_of_rows.specs.Depth.{taken_of}
use Rattle.laws_of_rows.proofs.Places.{set-next}
use Rattle.plain_market.proofs.maker.take_of.Goals as goal

pub loop-maker-preserved : goal.loop-maker-preserved
loop-maker-preserved c = set-next (taken_of c.args.name c.args.lots) c.args.makers.now c.loop-maker.makers c.loop-maker.maker-index _ c.taken_of.result c.loop-maker-test.true c.loop-maker.invariant c.taken_of.ensures
