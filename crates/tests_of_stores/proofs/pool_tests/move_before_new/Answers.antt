use Rattle.order_pool.proofs.PoolLemmas.{IsSound-with_item}
use Rattle.tests_of_stores.proofs.pool_tests.move_before_new.Goals as goal

pub take_nth-item-requires-clause-sound : goal.take_nth-item-requires-clause-sound
take_nth-item-requires-clause-sound g c = IsSound-with_item c.args.pool.now c.nth_place-first.result 15 c.nth_place-first.ensures.live c.requires.sound
