use Rattle.std.proofs.Common.{◌++◌}
use Rattle.laws_of_market.proofs.Told.{told-fits}
use Rattle.laws_of_market.proofs.Uses.{uses-remaining, within_offers}
use Rattle.laws_of_market.proofs.capacity.replies_oversell_nothing.Goals as goal

pub returns : goal.returns
returns c = λ setup parts events caller given before after event quarter arc is_setup history is.
    let told = told-fits setup is_setup parts events caller given history before after event is in
    uses-remaining setup (events ++ before) event (within_offers setup (events ++ before) told.0) told.1 quarter arc
