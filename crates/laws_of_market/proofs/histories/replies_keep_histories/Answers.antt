use Rattle.laws_of_market.proofs.Replies.{reply-history}
use Rattle.laws_of_market.proofs.histories.replies_keep_histories.Goals as goal

pub returns : goal.returns
returns c = λ setup parts events caller given is_setup history. reply-history setup is_setup parts events caller history given
