use Rattle.std.proofs.Common.{[]}
use Rattle.laws_of_market.proofs.Growing.{fit-back, fit-front}
use Rattle.laws_of_market.proofs.MomentsKept.{moments-kept}
use Rattle.laws_of_market.proofs.moments.moments_are_kept.Goals as goal

pub returns : goal.returns
returns c = λ setup before more order history there.
    moments-kept setup before more order (fit-front setup [] before more history.fit) (fit-back setup [] before more history.fit) there
