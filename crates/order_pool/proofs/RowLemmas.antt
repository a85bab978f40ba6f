-- What a row shows and keeps where more of it is stored, and what the two rows of links show.
use Rattle.std.proofs.Common.{◌≡◌, ◌≢◌, inl, inr, ℕ, suc, ◌+◌, ◌-◌, ◌<◌, ◌≤◌, List, [], ◌∷◌, ◌++◌, length, get_or, set, refl, sym, ap, ◌∙◌, arith, length-append, append_assoc, length-set}
use Rattle.std.specs.List.{range_with_len}
use Rattle.std.proofs.lemmas.Bool.{cases_lt}
use Rattle.std.proofs.lemmas.List.{set-append_left, set-append_right, get_or_append_left, get_or-append_right}
use Rattle.std.proofs.lemmas.List.FromFn.{length-range_with_len, get_or-range_with_len}
use Rattle.order_pool.specs.Rows.{padded}

module _ (stored : List ℕ) (first count : ℕ) where
  behind : List ℕ
  behind = range_with_len (first + length stored) (count - length stored)

  pub length-padded : length stored ≤ count → length (padded stored first count) ≡ count
  unfolding padded behind
  length-padded within = omega (arith, length-append stored behind, length-range_with_len (first + length stored) (count - length stored))

  pub padded_stored : (k : ℕ) → k < length stored → get_or (padded stored first count) k 0 ≡ get_or stored k 0
  unfolding padded behind
  padded_stored k low = get_or_append_left stored behind 0 k low

  pub padded_behind : (k : ℕ) → length stored ≤ k → k < count → get_or (padded stored first count) k 0 ≡ first + k
  unfolding padded behind
  padded_behind k high inside =
      let own : first + length stored + (k - length stored) ≡ first + k = omega arith in
      get_or-append_right stored behind (length stored) k 0 refl high ∙ get_or-range_with_len (first + length stored) (count - length stored) (k - length stored) 0 (omega arith) ∙ own

  -- another number at a stored index
  pub padded-set : (k number : ℕ) → k < length stored → padded (set stored k number) first count ≡ set (padded stored first count) k number
  unfolding padded behind
  padded-set k number low =
      ap (λ n. set stored k number ++ range_with_len (first + n) (count - n)) (length-set stored k number) ∙ sym (set-append_left stored behind k number low)

  -- one more stored number, the one that its index stands for
  pub padded-push : (number : ℕ) → number ≡ first + length stored → length stored < count → padded (stored ++ number ∷ []) first count ≡ padded stored first count
  unfolding padded behind
  padded-push number own more =
      let n = length stored in
      let longer : length (stored ++ number ∷ []) ≡ n + 1 = length-append stored (number ∷ []) in
      let left : count - n ≡ suc (count - (n + 1)) = omega arith in
      let next : first + (n + 1) ≡ first + n + 1 = omega arith in
      ap (λ m. (stored ++ number ∷ []) ++ range_with_len (first + m) (count - m)) longer
      ∙ append_assoc stored (number ∷ []) (range_with_len (first + (n + 1)) (count - (n + 1)))
      ∙ ap (λ m. stored ++ m ∷ range_with_len (first + (n + 1)) (count - (n + 1))) own
      ∙ ap (λ m. stored ++ (first + n) ∷ range_with_len m (count - (n + 1))) next
      ∙ ap (λ m. stored ++ range_with_len (first + n) m) (sym left)

-- the links of places and, behind them, those of marks
module _ (places marks links : List ℕ) (room count : ℕ) (all : room ≡ 4096) (few : length places ≤ 4096) (fewer : length marks ≤ count) (shown : padded places 0 room ++ padded marks 4096 count ≡ links) where
  length_places : length (padded places 0 room) ≡ 4096
  length_places = length-padded places 0 room (omega (arith, all, few)) ∙ all

  pub length-links : length links ≡ 4096 + count
  length-links =
      omega (arith, ap length shown, length-append (padded places 0 room) (padded marks 4096 count), length_places, length-padded marks 4096 count fewer)

  pub link_of_place : (k : ℕ) → k < 4096 → get_or links k 0 ≡ get_or (padded places 0 room) k 0
  link_of_place k low =
      sym (ap (λ l. get_or l k 0) shown) ∙ get_or_append_left (padded places 0 room) (padded marks 4096 count) 0 k (omega (arith, low, length_places))

  pub link_of_mark : (k : ℕ) → get_or links (4096 + k) 0 ≡ get_or (padded marks 4096 count) k 0
  link_of_mark k =
      let own : 4096 + k - 4096 ≡ k = omega arith in
      sym (ap (λ l. get_or l (4096 + k) 0) shown) ∙ get_or-append_right (padded places 0 room) (padded marks 4096 count) 4096 (4096 + k) 0 length_places (omega arith) ∙ ap (λ n. get_or (padded marks 4096 count) n 0) own

  -- the link of a place that leads elsewhere is stored
  pub place_stored : (k : ℕ) → k < 4096 → get_or links k 0 ≢ k → k < length places
  place_stored k low apart =
      elim (cases_lt k (length places)) [
        | inl stored ↦ stored
        | inr past ↦
            let own : 0 + k ≡ k = omega arith in
            absurd (apart (link_of_place k low ∙ padded_behind places 0 room k past (omega (arith, low, all)) ∙ own))
      ]

  pub place_set : (stored : List ℕ) (longer k end : ℕ) → k < 4096 → padded stored 0 longer ≡ set (padded places 0 room) k end → padded stored 0 longer ++ padded marks 4096 count ≡ set links k end
  place_set stored longer k end low made =
      ap (λ l. l ++ padded marks 4096 count) made ∙ sym (set-append_left (padded places 0 room) (padded marks 4096 count) k end (omega (arith, low, length_places))) ∙ ap (λ l. set l k end) shown

  pub mark_set : (stored : List ℕ) (longer k end : ℕ) → 4096 ≤ k → padded stored 4096 longer ≡ set (padded marks 4096 count) (k - 4096) end → padded places 0 room ++ padded stored 4096 longer ≡ set links k end
  mark_set stored longer k end high made =
      ap (λ l. padded places 0 room ++ l) made ∙ sym (set-append_right (padded places 0 room) (padded marks 4096 count) 4096 k end length_places high) ∙ ap (λ l. set l k end) shown

-- links that were never set
pub fresh_links : (links : List ℕ) (count : ℕ) → padded [] 0 4096 ++ padded [] 4096 count ≡ links → (length links ≡ 4096 + count) × ((k : ℕ) → k < 4096 + count → get_or links k 0 ≡ k)
fresh_links links count shown =
    let each : (k : ℕ) → k < 4096 + count → get_or links k 0 ≡ k =
    λ k within.
    elim (cases_lt k 4096) [
      | inl low ↦
          let own : 0 + k ≡ k = omega arith in
          link_of_place [] [] links 4096 count refl (omega arith) (omega arith) shown k low ∙ padded_behind [] 0 4096 k (omega arith) low ∙ own
      | inr high ↦
          let own : 4096 + (k - 4096) ≡ k = omega (arith, high) in
          sym (ap (λ n. get_or links n 0) own) ∙ link_of_mark [] [] links 4096 count refl (omega arith) (omega arith) shown (k - 4096) ∙ padded_behind [] 4096 count (k - 4096) (omega arith) (omega (arith, within, high)) ∙ own
    ] in
    (length-links [] [] links 4096 count refl (omega arith) (omega arith) shown, each)
