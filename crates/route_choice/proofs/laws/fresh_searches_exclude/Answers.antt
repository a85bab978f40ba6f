use Rattle.route_choice.proofs.Fresh.{fresh_excludes}
use Rattle.route_choice.proofs.laws.fresh_searches_exclude.Goals as goal

pub returns : goal.returns
returns c = fresh_excludes
