use Rattle.laws_of_views.proofs.Near.{views_nearby}
use Rattle.laws_of_views.proofs.nearby.views_change_nearby.Goals as goal

pub returns : goal.returns
returns c = views_nearby
