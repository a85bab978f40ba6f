use Rattle.laws_of_market.proofs.Without.{reply-same}
use Rattle.laws_of_market.proofs.halves.halves_change_no_other_reply.Goals as goal

pub returns : goal.returns
returns c = λ setup events caller given are none. reply-same setup events caller given are none
