-- How many lists of rows were made.
use Rattle.std.proofs.Common.{◌≡◌, ◌∙◌, inl, inr, ℕ, ◌+◌, ◌-◌, ◌^◌, ◌<◌, suc, List, [], ◌∷◌, ◌++◌, get_or, min, sym, ap, arith, sum_by}
use Rattle.std.proofs.Math.Nat.{min-eq_left, min-eq_right}
use Rattle.std.proofs.lemmas.Bool.{cases_lt}
use Rattle.std.proofs.lemmas.List.Sums.{sum_by-append}
use Rattle.std.specs.List.{range_with_len}
use Rattle.order_kinds.specs.declared.side.Side.{Side}
use Rattle.order_kinds.specs.declared.side.Side.TheVariants.{Buy, Sell}
use Rattle.cut_proof.proofs.ArcSums.{range_more}
use Rattle.zone_graph.specs.Graph.{Graph}
use Rattle.zone_graph.specs.Rooms.{room_of}
use Rattle.local_view.specs.Kept.{made_after}
use Rattle.local_view.specs.Nearness.{near_count}
use Rattle.desk_views.specs.Standing.{near_of_parts, part_near}

-- none more
pub made-none : (made : ℕ) → made < 2 ^ 64 → made ≡ made_after made 0
made-none made low = (let plain : made ≡ made + 0 = omega arith in plain) ∙ sym (min-eq_left {n = made + 0} {m = 2 ^ 64 - 1} (omega (arith, low)))

-- one number and then another
pub made-twice : (made one other : ℕ) → made_after (made_after made one) other ≡ made_after made (one + other)
made-twice made one other = elim (cases_lt (made + one) (2 ^ 64)) [
  | inl low ↦
      ap (λ n. min (n + other) (2 ^ 64 - 1)) (min-eq_left {n = made + one} {m = 2 ^ 64 - 1} (omega (arith, low)))
      ∙ ap (λ n. min n (2 ^ 64 - 1)) (let sum : (made + one) + other ≡ made + (one + other) = omega arith in sum)
  | inr high ↦
      ap (λ n. min (n + other) (2 ^ 64 - 1)) (min-eq_right {n = 2 ^ 64 - 1} {m = made + one} (omega (arith, high)))
      ∙ min-eq_right {n = 2 ^ 64 - 1} {m = (2 ^ 64 - 1) + other} (omega arith)
      ∙ sym (min-eq_right {n = 2 ^ 64 - 1} {m = made + (one + other)} (omega (arith, high)))
]

-- of one more part
pub near-more : (graph : Graph) (rooms : List (List (ℕ × ℕ))) (touched : (part : ℕ) → Side → ℕ) (parts : ℕ)
    → near_of_parts graph rooms touched (parts + 1) ≡ near_of_parts graph rooms touched parts + part_near graph rooms touched parts
near-more graph rooms touched parts =
    ap (λ list. sum_by (part_near graph rooms touched) list)
    (ap (range_with_len 0) (let next : parts + 1 ≡ suc parts = omega arith in next) ∙ range_more 0 parts
    ∙ ap (λ k. range_with_len 0 parts ++ k ∷ []) (let plain : 0 + parts ≡ parts = omega arith in plain))
    ∙ sum_by-append (part_near graph rooms touched) (range_with_len 0 parts) (parts ∷ [])
    ∙ (let one : sum_by (part_near graph rooms touched) (parts ∷ []) ≡ part_near graph rooms touched parts = omega arith in ap (λ n. near_of_parts graph rooms touched parts + n) one)

-- none were near
pub made-still : (made near : ℕ) → made < 2 ^ 64 → near ≡ 0 → made ≡ made_after made near
made-still made near low none = made-none made low ∙ ap (made_after made) (sym none)

module _ (graph : Graph) (rooms : List (List (ℕ × ℕ))) (touched : (part : ℕ) → Side → ℕ) (part : ℕ) where
  near-own : (row : List (ℕ × ℕ)) (buys sells : ℕ) → row ≡ get_or rooms part [] → buys ≡ touched part Buy → sells ≡ touched part Sell
      → near_count graph (room_of row) Buy buys + near_count graph (room_of row) Sell sells ≡ part_near graph rooms touched part
  near-own row buys sells own one other =
      ap (λ r. near_count graph (room_of r) Buy buys + near_count graph (room_of r) Sell sells) own
      ∙ ap (λ n. near_count graph (room_of (get_or rooms part [])) Buy n + near_count graph (room_of (get_or rooms part [])) Sell sells) one
      ∙ ap (λ n. near_count graph (room_of (get_or rooms part [])) Buy (touched part Buy) + near_count graph (room_of (get_or rooms part [])) Sell n) other

  -- what was made for the parts so far, and for one more
  pub made-more : (row : List (ℕ × ℕ)) (buys sells old mid new : ℕ) → row ≡ get_or rooms part [] → buys ≡ touched part Buy → sells ≡ touched part Sell
      → mid ≡ made_after old (near_of_parts graph rooms touched part)
      → new ≡ made_after mid (near_count graph (room_of row) Buy buys + near_count graph (room_of row) Sell sells)
      → new ≡ made_after old (near_of_parts graph rooms touched (part + 1))
  made-more row buys sells old mid new own one other before now =
      now
      ∙ ap (λ n. made_after n (near_count graph (room_of row) Buy buys + near_count graph (room_of row) Sell sells)) before
      ∙ ap (made_after (made_after old (near_of_parts graph rooms touched part))) (near-own row buys sells own one other)
      ∙ made-twice old (near_of_parts graph rooms touched part) (part_near graph rooms touched part)
      ∙ ap (made_after old) (sym (near-more graph rooms touched part))
