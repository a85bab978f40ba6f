-- The rooms of arcs over several quarters.
use Rattle.std.proofs.Common.{◌≡◌, ◌∙◌, ◌+◌, ◌-◌, ◌<◌, ◌≤◌, ◌==◌, ℕ, zero, suc, Bool, true, false, List, [], ◌∷◌, ◌++◌, fold, length, map, min, if◌then◌else◌, refl, ap, ap₂, arith}
use Rattle.std.specs.List.{flat_map, range_with_len}
use Rattle.std.specs.Prelude.{Result, Ok, Err, IfOk}
use Rattle.std.proofs.lemmas.Bool.{eqb-false}
use Rattle.std.proofs.lemmas.Grind.{flat_map-append}
use Rattle.std.proofs.lemmas.List.{length-map, map-append}
use Rattle.std.proofs.lemmas.List.Sums.{fold-append}
use Rattle.order_kinds.specs.declared.contract.Part.{Part}
use Rattle.order_kinds.specs.Contract.{is_known, quarters}
use Rattle.order_kinds.specs.Period.{EachQuarter, block_quarters, hour_quarters, hours_from, quarter_of}
use Rattle.quarter_capacity.specs.Capacity.{remaining_of}
use Rattle.zone_graph.specs.declared.route.Arc.{Arc}
use Rattle.zone_graph.specs.Graph.{Graph, HasArc}
use Rattle.market_model.specs.declared.event.Event.{Event}
use Rattle.market_model.specs.Capacity.{remaining}
use Rattle.market_model.specs.Room.{least, quarter_room, room}
use Rattle.laws_of_market.proofs.Rooms.{kept_part-is, kept_quarter-is}
use Rattle.plain_capacity.specs.Hour.{Capacity, IsCapacityOf, halted_at, part_room, remaining_in, room_in}

-- one more border
pub written_more : (border place new mid want : ℕ) → new ≡ (if border == place then want else mid) → (place < border → mid ≡ want)
    → place < border + 1 → new ≡ want
written_more border place new mid want written before so_far = by (border == place) refl written
  where
    by : (b : Bool) → (border == place) ≡ b → new ≡ (if b then want else mid) → new ≡ want
    by true e h = h
    by false e h =
        let apart : border ≡ place → ⊥ = eqb-false border place e in
        h ∙ before (omega arith)

-- ---- rooms by quarter

module _ (graph : Graph) (events : List Event) (hour : ℕ) (capacity : Capacity) (is : IsCapacityOf graph events hour capacity) (arc : Arc) (known : HasArc graph arc) where
  remains-is : EachQuarter (λ number. remaining_in capacity number arc ≡ remaining events (quarter_of hour number) arc)
  remains-is number first last = ap₂ remaining_of ((is.quarters number first last).offers arc) ((is.quarters number first last).flows arc)

  -- the room of a quarter is the one that the events leave
  pub room-is : EachQuarter (λ number. room_in capacity arc number ≡ quarter_room events arc (quarter_of hour number))
  room-is = kept_quarter-is events hour arc capacity.phase (halted_at capacity arc.border) (λ number. remaining_in capacity number arc) is.phase (is.halts arc.border known) remains-is

  -- and so is that of a part of the hour
  pub part-is : (p : Part) → is_known p ≡ true → part_room capacity p arc ≡ room events (map (quarter_of hour) (quarters p)) arc
  part-is = kept_part-is events hour arc capacity.phase (halted_at capacity arc.border) (λ number. remaining_in capacity number arc) is.phase (is.halts arc.border known) remains-is

-- ---- the least of several numbers

fold-min : (a y : ℕ) (ys : List ℕ) → fold min (min a y) ys ≡ min a (fold min y ys)
fold-min a y [] = refl
fold-min a y (z ∷ ys) =
    let turn : min (min a y) z ≡ min a (min y z) = omega arith in
    ap (λ m. fold min m ys) turn ∙ fold-min a (min y z) ys

least-append : (xs ys : List ℕ) → 0 < length xs → 0 < length ys → least (xs ++ ys) ≡ min (least xs) (least ys)
least-append [] ys some more = absurd (let no : ⊥ = omega arith in no)
least-append (x ∷ xs) [] some more = absurd (let no : ⊥ = omega arith in no)
least-append (x ∷ xs) (y ∷ ys) some more = fold-append min x xs (y ∷ ys) ∙ fold-min (fold min x xs) y ys

-- ---- the hours of a block

hours-more : (first hour : ℕ) → first ≤ hour → hours_from first (hour + 1) ≡ hours_from first hour ++ (hour + 1) ∷ []
hours-more first hour order =
    let count : hour + 1 + 1 - first ≡ (hour + 1 - first) + 1 = omega arith in
    ap (range_with_len first) count ∙ range-more first (hour + 1 - first) (hour + 1) (omega arith)
  where
    range-more : (a n j : ℕ) → a + n ≡ j → range_with_len a (n + 1) ≡ range_with_len a n ++ j ∷ []
    range-more a zero j e = let same : a ≡ j = omega arith in ap (λ k. k ∷ []) same
    range-more a (suc n) j e = let one : suc n + 1 ≡ suc (n + 1) = omega arith in rw one (ap (λ l. a ∷ l) (range-more (a + 1) n j (omega arith)))

pub block-first : (first : ℕ) → block_quarters first first ≡ hour_quarters first
block-first first = let one : first + 1 - first ≡ 1 = omega arith in ap (λ n. flat_map hour_quarters (range_with_len first n)) one

block-more : (first hour : ℕ) → first ≤ hour → block_quarters first (hour + 1) ≡ block_quarters first hour ++ hour_quarters (hour + 1)
block-more first hour order =
    ap (flat_map hour_quarters) (hours-more first hour order) ∙ flat_map-append hour_quarters (hours_from first hour) ((hour + 1) ∷ [])

block-some : (first hour : ℕ) → first ≤ hour → 0 < length (block_quarters first hour)
block-some first hour order = by (hour + 1 - first) (omega arith)
  where
    by : (n : ℕ) → 0 < n → 0 < length (flat_map hour_quarters (range_with_len first n))
    by zero some = absurd (let no : ⊥ = omega arith in no)
    by (suc n) some = omega arith

-- the room of a block of one more hour
pub room-more : (events : List Event) (first hour : ℕ) (arc : Arc) → first ≤ hour
    → room events (block_quarters first (hour + 1)) arc ≡ min (room events (block_quarters first hour) arc) (room events (hour_quarters (hour + 1)) arc)
room-more events first hour arc order =
    ap (λ quarters. room events quarters arc) (block-more first hour order)
    ∙ ap least (map-append (quarter_room events arc) (block_quarters first hour) (hour_quarters (hour + 1)))
    ∙ least-append (map (quarter_room events arc) (block_quarters first hour)) (map (quarter_room events arc) (hour_quarters (hour + 1)))
    (let some = block-some first hour order in let same = length-map (block_quarters first hour) (quarter_room events arc) in omega arith)
    (omega arith)

-- what is said of a value where there is one, said in other words
pub said_again : {T E : Type 0} (result : Result T E) (P Q : T → Type 0) → ((made : T) → P made → Q made) → IfOk result P → IfOk result Q
said_again (Ok made) P Q more h = more made h
said_again (Err fault) P Q more h = tt
