use Rattle.market_model.specs.HistoryLaws.{history_of}
use Rattle.market_model.specs.Sweep.{all_parts}
use Rattle.laws_of_market.proofs.Journals.{run-history}
use Rattle.ship_schedule.proofs.Positions.{positions-nothing}
use Rattle.ship_schedule.proofs.laws.positions_add_up_to_nothing.Goals as goal

pub returns : goal.returns
returns c = λ setup turns quarter is_setup.
    positions-nothing setup (history_of setup turns) (run-history setup is_setup all_parts turns).fit quarter
