use Rattle.market_model.specs.HistoryLaws.{history_of}
use Rattle.market_model.specs.Sweep.{all_parts}
use Rattle.laws_of_market.proofs.Journals.{run-history}
use Rattle.laws_of_market.proofs.NamedByHour.{history-named}
use Rattle.laws_of_market.proofs.LocalReplies.{reply-local}
use Rattle.laws_of_market.proofs.locality.replies_are_local.Goals as goal

pub returns : goal.returns
returns c = λ setup turns others caller given is_setup same.
    reply-local all_parts setup (history_of setup turns) (history_of setup others) caller given (record {
      named_a = history-named setup (history_of setup turns) (run-history setup is_setup all_parts turns).fit;
      named_b = history-named setup (history_of setup others) (run-history setup is_setup all_parts others).fit;
      same = same;
    })
