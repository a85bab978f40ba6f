use Rattle.laws_of_market.proofs.ReplyEntries.{reply-enters-few}
use Rattle.laws_of_market.proofs.reply_bounds.replies_enter_few.Goals as goal

pub returns : goal.returns
returns c = reply-enters-few
