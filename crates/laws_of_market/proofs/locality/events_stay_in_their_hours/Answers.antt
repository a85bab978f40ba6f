use Rattle.market_model.specs.HistoryLaws.{history_of}
use Rattle.market_model.specs.Sweep.{all_parts}
use Rattle.laws_of_market.proofs.Journals.{run-history}
use Rattle.laws_of_market.proofs.NamedByHour.{history-named}
use Rattle.laws_of_market.proofs.WithinHours.{reply-within}
use Rattle.laws_of_market.proofs.locality.events_stay_in_their_hours.Goals as goal

pub returns : goal.returns
returns c = λ setup turns caller given event hour is_setup i touched.
    reply-within all_parts setup (history_of setup turns) caller given (history-named setup (history_of setup turns) (run-history setup is_setup all_parts turns).fit) event i hour touched
