use Rattle.laws_of_views.proofs.Viewed.{take_little}
use Rattle.laws_of_views.proofs.places.views_take_no_more_than_is_open.Goals as goal

pub returns : goal.returns
returns c = take_little
