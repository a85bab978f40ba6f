-- Lists in order: how an item is put into one, and how one is made.
use Rattle.std.specs.Prelude.{◌≡◌, true, List, [], ◌∷◌, fold, if◌then◌else◌}
use Rattle.std.specs.Ordering.{is_lt}
use Rattle.std.specs.declared.cmp.Ordering.{Ordering}
use Rattle.zone_graph.specs.Route.{IsIn}

-- an item put into a list that is in order: before the first one that comes after it
abbrev pub put_in_order : {X : Type 0} → (X → X → Ordering) → List X → X → List X
put_in_order cmp [] x = x ∷ []
put_in_order cmp (y ∷ ys) x = if is_lt (cmp x y) then (x ∷ y ∷ ys) else (y ∷ put_in_order cmp ys x)

-- items in order
abbrev pub in_order : {X : Type 0} → (X → X → Ordering) → List X → List X
in_order cmp items = fold (put_in_order cmp) [] items

-- a list is strictly in order: each item comes before every one that stands behind it
abbrev pub IsStrictlyInOrder : {X : Type 0} → (X → X → Ordering) → List X → Type 0
IsStrictlyInOrder cmp [] = Unit {0}
IsStrictlyInOrder {X} cmp (x ∷ xs) = ((y : X) → IsIn y xs → is_lt (cmp x y) ≡ true) × IsStrictlyInOrder cmp xs
