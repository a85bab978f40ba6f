use Rattle.laws_of_market.proofs.Names.{names-once}
use Rattle.laws_of_market.proofs.Unique.{one_block, one_order, order_is_no_block}
use Rattle.laws_of_market.proofs.histories.names_are_given_once.Goals as goal

pub returns : goal.returns
returns c = λ setup events history.
    let once = names-once setup events history.fit in (one_order events once, one_block events once, order_is_no_block events once)
