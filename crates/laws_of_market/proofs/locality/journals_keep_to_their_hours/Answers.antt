use Rattle.market_model.specs.Sweep.{all_parts}
use Rattle.laws_of_market.proofs.Keeping.{run-keeping}
use Rattle.laws_of_market.proofs.locality.journals_keep_to_their_hours.Goals as goal

pub returns : goal.returns
returns c = λ setup turns entry is_setup there. run-keeping setup is_setup all_parts turns entry there
