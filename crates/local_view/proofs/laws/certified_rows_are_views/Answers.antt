use Rattle.local_view.proofs.Certificates.{certified_views}
use Rattle.local_view.proofs.laws.certified_rows_are_views.Goals as goal

pub returns : goal.returns
returns c = certified_views
