use Rattle.laws_of_views.proofs.Viewed.{add_up}
use Rattle.laws_of_views.proofs.places.views_add_up_to_their_bound.Goals as goal

pub returns : goal.returns
returns c = add_up
