use Rattle.std.proofs.lemmas.List.Elements.{filter-append}
use Rattle.market_model.specs.History.{events_of, touches}
use Rattle.market_model.specs.Market.{reply_by}
use Rattle.laws_of_market.proofs.bounds.hours_go_on_alone.Goals as goal

pub returns : goal.returns
returns c = λ setup parts events caller given hour. filter-append (touches hour) events (events_of (reply_by parts setup events caller given))
