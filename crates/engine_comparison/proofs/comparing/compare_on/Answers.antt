use Rattle.laws_of_texts.proofs.Grids.{sessions-make-grids}
use Rattle.engine_comparison.proofs.comparing.compare_on.Goals as goal

-- a session that is read makes a grid
pub compare-requires-clause-sound : goal.compare-requires-clause-sound
compare-requires-clause-sound c = (sessions-make-grids c.args.text.now c.in-Ok.session c.in-Ok.ensures.exact).1
