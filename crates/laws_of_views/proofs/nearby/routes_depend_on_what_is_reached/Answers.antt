use Rattle.laws_of_views.proofs.Near.{beyond_same}
use Rattle.laws_of_views.proofs.nearby.routes_depend_on_what_is_reached.Goals as goal

pub returns : goal.returns
returns c = beyond_same
