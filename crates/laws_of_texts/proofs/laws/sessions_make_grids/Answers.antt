use Rattle.laws_of_texts.proofs.Grids.{sessions-make-grids}
use Rattle.laws_of_texts.proofs.laws.sessions_make_grids.Goals as goal

pub returns : goal.returns
returns c = sessions-make-grids
