use Rattle.laws_of_views.proofs.Differing.{event_within}
use Rattle.laws_of_views.proofs.changes.events_stay_within.Goals as goal

pub returns : goal.returns
returns c = event_within
