use Rattle.laws_of_market.proofs.NamedByHour.{history-named}
use Rattle.laws_of_market.proofs.LocalReplies.{reply-local}
use Rattle.laws_of_market.proofs.locality.touched_hours_decide.Goals as goal

pub returns : goal.returns
returns c = λ setup parts events others caller given history other same.
    reply-local parts setup events others caller given (record {
      named_a = history-named setup events history.fit;
      named_b = history-named setup others other.fit;
      same = same;
    })
