use Rattle.laws_of_views.proofs.TakerBound.{takers_bound}
use Rattle.laws_of_views.proofs.places.views_have_their_takers_bound.Goals as goal

pub returns : goal.returns
returns c = takers_bound
