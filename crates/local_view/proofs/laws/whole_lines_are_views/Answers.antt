use Rattle.local_view.proofs.Wholes.{whole_views}
use Rattle.local_view.proofs.laws.whole_lines_are_views.Goals as goal

pub returns : goal.returns
returns c = whole_views
