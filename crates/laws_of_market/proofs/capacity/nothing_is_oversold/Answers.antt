use Rattle.std.proofs.Common.{[], ◌∷◌, subst}
use Rattle.market_model.specs.Sweep.{all_parts}
use Rattle.market_model.specs.WellFormed.{FitAfter}
use Rattle.laws_of_market.proofs.Growing.{fit-back, fit-front}
use Rattle.laws_of_market.proofs.Journals.{run-history}
use Rattle.laws_of_market.proofs.Uses.{uses-remaining, within_offers}
use Rattle.laws_of_market.proofs.capacity.nothing_is_oversold.Goals as goal

pub returns : goal.returns
returns c = λ setup turns before after event quarter arc is_setup is has is_real.
    let fit = subst (FitAfter setup []) is (run-history setup is_setup all_parts turns).fit in
    uses-remaining setup before event (within_offers setup before (fit-front setup [] before (event ∷ after) fit))
    (fit-back setup [] before (event ∷ after) fit).0 quarter arc
