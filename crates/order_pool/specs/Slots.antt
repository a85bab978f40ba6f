-- How a pool lays out its items. No public clause cites this module.
use Rattle.std.specs.Prelude.{◌≡◌, ℕ, ◌+◌, ◌<◌, ◌≤◌, List, length, sum_by, Option, Some, None, IsSome, slice_index_or}
use Rattle.order_pool.specs.Lines.{StandsIn}
use Rattle.order_pool.specs.Cells.{filled}
use Rattle.order_pool.specs.Rings.{AreRings}
use Rattle.order_pool.specs.declared.slots.Slot.{Slot}
use Rattle.order_pool.specs.declared.slots.Slot.TheVariants.{Free, Held}

module _ {T : Type 0} where
  -- the item of a slot, if it holds one
  abbrev pub item_in : Slot T → Option T
  item_in Free = None
  item_in (Held item) = Some item

  -- the items of all places: those of the slots in order, and none behind them
  abbrev pub places_in : List (Slot T) → List (Option T)
  places_in slots = filled item_in slots 4096

  -- the places below a number were used: those of the first ring are free again, and those of the
  -- others hold an item
  pub record IsPool (places : List (Option T)) (rings : List (List ℕ)) (used : ℕ) : Type 0 where
    pub size : length places ≡ 4096
    pub two : 2 ≤ length rings
    pub within : used ≤ 4096
    pub free : (place : ℕ) → StandsIn rings 0 place → slice_index_or places place None ≡ None
    pub held : (line place : ℕ) → StandsIn rings (line + 1) place
        → IsSome (slice_index_or places place None)
    pub covered : (place : ℕ) → place < used → (ring : ℕ) × StandsIn rings ring place
    pub low : (ring place : ℕ) → StandsIn rings ring place → place < used
    pub untouched : (place : ℕ) → used ≤ place → slice_index_or places place None ≡ None
    pub total : sum_by length rings ≡ used
    pub sound : AreRings rings
