use Rattle.std.proofs.Common.{◌++◌}
use Rattle.market_model.specs.History.{events_of}
use Rattle.market_model.specs.Market.{reply_by}
use Rattle.laws_of_market.proofs.Replies.{reply-history}
use Rattle.laws_of_market.proofs.Uses.{remaining-within, within_offers}
use Rattle.laws_of_market.proofs.capacity.replies_leave_capacity.Goals as goal

pub returns : goal.returns
returns c = λ setup parts events caller given quarter arc is_setup history.
    let after = events ++ events_of (reply_by parts setup events caller given) in
    remaining-within after (within_offers setup after (reply-history setup is_setup parts events caller history given).fit) quarter arc
