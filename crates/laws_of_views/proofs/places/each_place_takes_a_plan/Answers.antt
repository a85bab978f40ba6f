use Rattle.laws_of_views.proofs.Viewed.{each_plan}
use Rattle.laws_of_views.proofs.places.each_place_takes_a_plan.Goals as goal

pub returns : goal.returns
returns c = each_plan
