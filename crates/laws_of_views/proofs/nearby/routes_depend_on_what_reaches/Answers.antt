use Rattle.laws_of_views.proofs.Near.{towards_same}
use Rattle.laws_of_views.proofs.nearby.routes_depend_on_what_reaches.Goals as goal

pub returns : goal.returns
returns c = towards_same
