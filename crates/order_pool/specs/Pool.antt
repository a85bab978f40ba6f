-- A pool as its callers see it.
use Rattle.std.specs.Prelude.{◌≡◌, ℕ, ◌<◌, ◌≤◌, List, length, sum_by, Option, Some, None, IsSome, slice_index_or, slice_set, refl}
use Rattle.std.specs.Coded.{Coded, code_by, coded×, coded_ℕ, coded_list, coded_option}
use Rattle.order_pool.specs.Lines.{StandsIn, StandOnce}

-- for each place the item that it holds, if it holds one, and for each line its places in order
pub record PoolState (T : Type 0) : Type 0 where
  pub places : List (Option T)
  pub lines : List (List ℕ)

-- a pool is stored as the pair of its fields
abbrev pub pool_code : {T : Type 0} → Coded T → Coded (PoolState T)
pool_code {T} code =
    code_by
    (List (Option T) × List (List ℕ))
    (coded× (coded_list (coded_option code)) (coded_list (coded_list coded_ℕ)))
    (λ pool. (pool.places, pool.lines))
    (λ pair. record { places = pair.0; lines = pair.1 })
    (λ _. refl)

module _ {T : Type 0} where
  -- the item that a place holds, if it holds one
  abbrev pub item_at : PoolState T → ℕ → Option T
  item_at pool place = slice_index_or pool.places place None

  -- the place holds an item
  abbrev pub IsLive : PoolState T → ℕ → Type 0
  IsLive pool place = IsSome (item_at pool place)

  -- how many places hold an item: as many as stand in the lines
  abbrev pub live_count : PoolState T → ℕ
  live_count pool = sum_by length pool.lines

  -- the pool with another item at a place
  abbrev pub with_item : PoolState T → ℕ → T → PoolState T
  with_item pool place item = record pool { places = slice_set pool.places place (Some item) }

  -- what every pool keeps: there are 4096 places and some lines, and exactly the places that hold
  -- an item stand in the lines, each at one spot
  pub record IsSound (pool : PoolState T) : Type 0 where
    pub size : length pool.places ≡ 4096
    pub some : 0 < length pool.lines
    pub live : (line place : ℕ) → StandsIn pool.lines line place → IsLive pool place
    pub stands : (place : ℕ) → IsLive pool place → (line : ℕ) × StandsIn pool.lines line place
    pub once : StandOnce pool.lines
    pub few : live_count pool ≤ 4096
