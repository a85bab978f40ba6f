use Rattle.laws_of_market.proofs.MomentsKept.{none-overtakes}
use Rattle.laws_of_market.proofs.moments.nobody_overtakes.Goals as goal

pub returns : goal.returns
returns c = λ setup before more order other history there other_there same_hour first kept.
    none-overtakes setup before more order other history.fit there other_there same_hour first kept
