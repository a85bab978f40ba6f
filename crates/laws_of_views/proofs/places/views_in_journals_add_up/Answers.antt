use Rattle.laws_of_views.proofs.InJournals.{adds_up}
use Rattle.laws_of_views.proofs.places.views_in_journals_add_up.Goals as goal

pub returns : goal.returns
returns c = adds_up
