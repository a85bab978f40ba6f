-- A region of memory with room for so many items, as the pool uses it.
use Rattle.std.specs.Prelude.{ℕ, List, slice_set}

-- the items that were written, in order, and for how many there is room in all
pub record Stock (T : Type 0) : Type 0 where
  pub items : List T
  pub room : ℕ

-- the region with another item at an index
abbrev pub restocked : {T : Type 0} → Stock T → ℕ → T → Stock T
restocked stock index item = record { items = slice_set stock.items index item; room = stock.room }
