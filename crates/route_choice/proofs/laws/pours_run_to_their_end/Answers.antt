use Rattle.route_choice.proofs.Pours.{runs_to_its_end}
use Rattle.route_choice.proofs.laws.pours_run_to_their_end.Goals as goal

pub returns : goal.returns
returns c = runs_to_its_end
