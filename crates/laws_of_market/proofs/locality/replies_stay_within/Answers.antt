use Rattle.laws_of_market.proofs.NamedByHour.{history-named}
use Rattle.laws_of_market.proofs.WithinHours.{reply-within}
use Rattle.laws_of_market.proofs.locality.replies_stay_within.Goals as goal

pub returns : goal.returns
returns c = λ setup parts events caller given event hour history i touched.
    reply-within parts setup events caller given (history-named setup events history.fit) event i hour touched
