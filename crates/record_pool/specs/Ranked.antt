-- Records in lines of places, each line in the order of its records.
use Rattle.std.specs.Prelude.{◌≡◌, ℕ, Bool, true, false, List, ◌++◌, Option, Some}
use Rattle.std.specs.List.{filter_map}
use Rattle.std.specs.Ordering.{is_lt}
use Rattle.std.specs.declared.cmp.Ordering.{Ordering}
use Rattle.order_pool.specs.Lines.{first_in}
use Rattle.zone_graph.specs.Route.{IsIn}
use Rattle.record_pool.specs.Keyed.{held_at}

module _ {T : Type 0} where
  -- the records of a line of places, in its order
  abbrev pub records_of : List (Option T) → List ℕ → List T
  records_of places line = filter_map (held_at places) line

  -- right before this place of a line, or at its end where none is given, is the spot of a record: it
  -- comes before no record that stands ahead of it, and before every one that stands behind it
  pub record IsSpot (cmp : T → T → Ordering) (places : List (Option T)) (line : List ℕ) (joining : T) (before : Option ℕ) : Type 0 where
    pub front : List ℕ
    pub back : List ℕ
    pub whole : line ≡ front ++ back
    pub at : before ≡ first_in back
    pub ahead : (other : T) → IsIn other (records_of places front) → is_lt (cmp joining other) ≡ false
    pub behind : (other : T) → IsIn other (records_of places back) → is_lt (cmp joining other) ≡ true
