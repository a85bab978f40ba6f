-- What a fresh pool is.
use Rattle.std.proofs.Common.{◌≡◌, ℕ, ◌+◌, ◌-◌, ◌<◌, ◌≤◌, List, [], length, drop, replicate, sum_by, sym, ap, ◌∙◌, subst, arith}
use Rattle.std.proofs.lemmas.List.{length-replicate, get_or-replicate, drop-replicate}
use Rattle.std.proofs.lemmas.List.Folds.{sum_by-replicate}
use Rattle.order_pool.specs.Lines.{line_at, StandsIn}
use Rattle.order_pool.specs.Rings.{AreRings}
use Rattle.order_pool.specs.declared.slots.Slot.{Slot}
use Rattle.order_pool.specs.Slots.{item_in, places_in, IsPool}
use Rattle.order_pool.proofs.FilledLemmas.{length-filled, filled_past}

-- the lines of a fresh pool are empty
pub no_lines : (rings : List (List ℕ)) (lines : ℕ) → rings ≡ replicate (lines + 1) [] → drop 1 rings ≡ replicate lines []
no_lines rings lines empty =
    let none : List ℕ = [] in
    let fewer : lines + 1 - 1 ≡ lines = omega arith in
    ap (drop 1) empty ∙ drop-replicate 1 (lines + 1) none ∙ ap (λ n. replicate n none) fewer

-- no place stands in a fresh ring
fresh_absent : (rings : List (List ℕ)) (count : ℕ) → rings ≡ replicate count [] → (ring place : ℕ) → StandsIn rings ring place → ⊥
fresh_absent rings count empty ring place stands =
    let none : List ℕ = [] in
    let inside : ring < count = omega (arith, stands.0, ap length empty, length-replicate count none) in
    let nothing : line_at rings ring ≡ none = ap (λ r. line_at r ring) empty ∙ get_or-replicate count ring none none inside in
    omega (arith, stands.1.1, ap length nothing)

module _ {T : Type 0} where
  -- a pool that holds nothing
  pub IsPool-fresh : (rings : List (List ℕ)) (count : ℕ) → 2 ≤ count → rings ≡ replicate count [] → AreRings rings → IsPool (places_in {T = T} []) rings 0
  IsPool-fresh rings count two empty sound =
      let none : List ℕ = [] in
      record {
        size = length-filled (item_in {T = T}) [] 4096 (omega arith);
        two = omega (arith, two, ap length empty, length-replicate count none);
        within = omega arith;
        free = λ place stands. absurd (fresh_absent rings count empty 0 place stands);
        held = λ line place stands. absurd (fresh_absent rings count empty (line + 1) place stands);
        covered = λ place low. absurd (omega (arith, low));
        low = λ ring place stands. absurd (fresh_absent rings count empty ring place stands);
        untouched = λ place high. filled_past (item_in {T = T}) [] 4096 place (omega arith);
        total = ap (sum_by length) empty ∙ sum_by-replicate length count none ∙ omega arith;
        sound = sound;
      }

  pub IsPool-made : (slots : List (Slot T)) (rings : List (List ℕ)) (lines : ℕ) → 1 ≤ lines → slots ≡ [] → rings ≡ replicate (lines + 1) [] → AreRings rings → IsPool (places_in slots) rings (length slots)
  IsPool-made slots rings lines some none empty sound =
      let P : List (Slot T) → Type 0 = λ l. IsPool (places_in l) rings (length l) in
      subst P (sym none) (IsPool-fresh rings (lines + 1) (omega (arith, some)) empty sound)
