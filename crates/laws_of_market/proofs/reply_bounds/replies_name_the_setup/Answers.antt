use Rattle.laws_of_market.proofs.ReplyNames.{reply-names}
use Rattle.laws_of_market.proofs.reply_bounds.replies_name_the_setup.Goals as goal

pub returns : goal.returns
returns c = reply-names
