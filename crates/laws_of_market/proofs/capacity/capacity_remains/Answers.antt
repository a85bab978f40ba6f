use Rattle.market_model.specs.HistoryLaws.{history_of}
use Rattle.market_model.specs.Sweep.{all_parts}
use Rattle.laws_of_market.proofs.Journals.{run-history}
use Rattle.laws_of_market.proofs.Uses.{remaining-within, within_offers}
use Rattle.laws_of_market.proofs.capacity.capacity_remains.Goals as goal

pub returns : goal.returns
returns c = λ setup turns quarter arc is_setup has is_real.
    let history = run-history setup is_setup all_parts turns in
    remaining-within (history_of setup turns) (within_offers setup (history_of setup turns) history.fit) quarter arc
