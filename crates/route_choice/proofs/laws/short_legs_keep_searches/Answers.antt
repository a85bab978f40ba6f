use Rattle.route_choice.proofs.Steady.{short_legs_keep}
use Rattle.route_choice.proofs.laws.short_legs_keep_searches.Goals as goal

pub returns : goal.returns
returns c = short_legs_keep
