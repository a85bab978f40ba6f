use Rattle.laws_of_views.proofs.Viewed.{each_place}
use Rattle.laws_of_views.proofs.places.each_place_gets_the_most.Goals as goal

pub returns : goal.returns
returns c = each_place
