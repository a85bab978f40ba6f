use Rattle.std.proofs.Common.{[]}
use Rattle.market_model.specs.History.{events_of}
use Rattle.market_model.specs.Market.{reply_by}
use Rattle.laws_of_market.proofs.Growing.{fit-back}
use Rattle.laws_of_market.proofs.Replies.{reply-history}
use Rattle.laws_of_market.proofs.MomentsKept.{moments-kept}
use Rattle.laws_of_market.proofs.moments.replies_keep_moments.Goals as goal

pub returns : goal.returns
returns c = λ setup parts events caller given order is_setup history there.
    moments-kept setup events (events_of (reply_by parts setup events caller given)) order history.fit
    (fit-back setup [] events (events_of (reply_by parts setup events caller given)) (reply-history setup is_setup parts events caller history given).fit) there
