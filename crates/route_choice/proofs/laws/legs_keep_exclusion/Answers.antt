use Rattle.route_choice.proofs.Fresh.{legs_keep_exclusion}
use Rattle.route_choice.proofs.laws.legs_keep_exclusion.Goals as goal

pub returns : goal.returns
returns c = legs_keep_exclusion
