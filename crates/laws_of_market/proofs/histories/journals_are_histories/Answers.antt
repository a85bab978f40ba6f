use Rattle.laws_of_market.proofs.Journals.{run-history}
use Rattle.laws_of_market.proofs.histories.journals_are_histories.Goals as goal

pub returns : goal.returns
returns c = λ setup parts turns is_setup. run-history setup is_setup parts turns
