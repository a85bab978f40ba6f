use Rattle.market_model.specs.HistoryLaws.{history_of}
use Rattle.market_model.specs.Sweep.{all_parts}
use Rattle.laws_of_market.proofs.Journals.{run-history}
use Rattle.ship_schedule.proofs.Positions.{position-carried}
use Rattle.ship_schedule.proofs.laws.positions_are_what_borders_carry.Goals as goal

pub returns : goal.returns
returns c = λ setup turns zone quarter is_setup.
    position-carried setup (history_of setup turns) (run-history setup is_setup all_parts turns).fit zone quarter
