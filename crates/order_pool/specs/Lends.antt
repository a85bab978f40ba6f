-- What a pool ends as, where a `&mut` to one of its items is returned.
use Rattle.std.specs.Prelude.{ℕ}
use Rattle.std.specs.Borrow.{Lends, Fml, RattleType, MutBor}
use Rattle.order_pool.specs.Pool.{PoolState, with_item}
use Rattle.order_pool.specs.contracts.pool.Pool.{the_row}

module _ (T : RattleType) (pool : MutBor (PoolState T.Denot)) (place : ℕ) where
  -- once the borrow ends, the place holds the last item written through it
  abbrev pub LendsItem : MutBor T.Denot → Fml
  LendsItem item = Lends (the_row T) T pool item (with_item pool.now place)
