use Rattle.local_view.proofs.Moving.{replaced_stand}
use Rattle.local_view.proofs.laws.replaced_orders_behind_cuts_change_nothing.Goals as goal

pub returns : goal.returns
returns c = replaced_stand
