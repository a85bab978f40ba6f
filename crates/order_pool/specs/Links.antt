-- How the links through the region make rings of places. Each ring begins and ends at a mark, a
-- number behind all places: the mark of ring k is 4096 + k.
use Rattle.std.specs.Prelude.{◌≡◌, ℕ, zero, suc, ◌+◌, ◌-◌, ◌<◌, ◌≤◌, ◌^◌, List, [], ◌∷◌, map, length, sum_by, slice_index, nat_lt, if◌then◌else◌}
use Rattle.std.specs.List.{range_with_len}
use Rattle.order_pool.specs.Lines.{line_at}

-- the places that the links lead through from a number on, up to the first mark
unfoldable pub walked : List ℕ → ℕ → ℕ → List ℕ
walked next zero at = []
walked next (suc steps) at =
    if nat_lt at 4096 then at ∷ walked next steps (slice_index next at) else []

-- the places of a ring, from its mark on
unfoldable pub ring_linked : List ℕ → ℕ → List ℕ
ring_linked next ring = walked next (length next) (slice_index next (4096 + ring))

-- all rings: there are as many as marks
unfoldable pub rings_linked : List ℕ → List (List ℕ)
rings_linked next = map (ring_linked next) (range_with_len 0 (length next - 4096))

-- the links lead from one number through these places to another, and the same way back
abbrev pub IsChain : List ℕ → List ℕ → ℕ → List ℕ → ℕ → Type 0
IsChain next previous from [] to =
    (slice_index next from ≡ to) × (slice_index previous to ≡ from)
IsChain next previous from (place ∷ places) to =
    (place < 4096) × (slice_index next from ≡ place) × (slice_index previous place ≡ from)
    × IsChain next previous place places to

-- the links make these rings, and no more places stand in them than there are
pub record AreLinked (next previous : List ℕ) (rings : List (List ℕ)) : Type 0 where
  pub length_next : length next ≡ 4096 + length rings
  pub length_previous : length previous ≡ 4096 + length rings
  pub fits : 4096 + length rings < 2 ^ 32
  pub few : sum_by length rings ≤ 4096
  pub chained : (k : ℕ) → k < length rings
      → IsChain next previous (4096 + k) (line_at rings k) (4096 + k)
