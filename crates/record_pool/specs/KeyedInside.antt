-- How a pool finds its items by their keys. No public clause cites this module.
use Rattle.std.specs.Prelude.{◌≡◌, ℕ, length, Some}
use Rattle.order_pool.specs.Lines.{StandsIn}
use Rattle.order_pool.specs.Pool.{PoolState, item_at, IsSound}
use Rattle.record_pool.specs.Keyed.{held_count, AreKeyed}

-- each item stands in the chain of its key's bucket
pub record IsChained {T K : Type 0} (key_of : T → K) (bucket_of : K → ℕ) (pool : PoolState T) (count : ℕ) : Type 0 where
  pub sound : IsSound pool
  pub buckets : length pool.lines ≡ 4096
  pub keyed : AreKeyed key_of pool.places
  pub chained : (line place : ℕ) (item : T) → StandsIn pool.lines line place → item_at pool place ≡ Some item
      → bucket_of (key_of item) ≡ line
  pub counted : count ≡ held_count pool.places
