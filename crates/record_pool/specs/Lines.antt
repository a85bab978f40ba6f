-- Lines through the places of a pool, each in the order of its records.
use Rattle.std.specs.Prelude.{◌≡◌, ℕ, ◌<◌, List, length, sum_by, Option, Some}
use Rattle.std.specs.declared.cmp.Ordering.{Ordering}
use Rattle.order_kinds.specs.declared.side.Side.{Side}
use Rattle.order_pool.specs.Lines.{line_at, StandsIn}
use Rattle.order_pool.specs.Rings.{AreRings}
use Rattle.zone_graph.specs.InOrder.{IsStrictlyInOrder}
use Rattle.record_pool.specs.Keyed.{held_at, held_count}
use Rattle.record_pool.specs.Ranked.{records_of}

-- exactly the places that hold a record stand in the lines, each in a line to which its record
-- belongs, and the records of a line are in the order of its side
pub record AreLines {T : Type 0} (cmp : Side → T → T → Ordering) (side_of : ℕ → Side) (BelongsTo : ℕ → T → Type 0) (places : List (Option T)) (lines : List (List ℕ)) : Type 0 where
  pub rings : AreRings lines
  pub live : (line place : ℕ) → StandsIn lines line place → (item : T) × (held_at places place ≡ Some item) × BelongsTo line item
  pub stands : (place : ℕ) (item : T) → held_at places place ≡ Some item → (line : ℕ) × StandsIn lines line place
  pub total : sum_by length lines ≡ held_count places
  pub sorted : (line : ℕ) → line < length lines → IsStrictlyInOrder (cmp (side_of line)) (records_of places (line_at lines line))
