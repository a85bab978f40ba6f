use Rattle.laws_of_views.proofs.InJournals.{each_place_most}
use Rattle.laws_of_views.proofs.places.each_place_in_journals_gets_the_most.Goals as goal

pub returns : goal.returns
returns c = each_place_most
