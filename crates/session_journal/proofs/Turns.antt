-- Counting turns.
use Rattle.std.proofs.Common.{◌≡◌, ◌∙◌, ◌+◌, ◌<◌, ◌≤◌, ℕ, zero, suc, Bool, true, false, cond, List, count_by, length, get_or, replicate, slice_index, slice_set, take, drop, nat_eq, refl, sym, ap, arith, eq-eqb, eqb-true, get_or-set_same, get_or-set_other, take-append-drop}
use Rattle.std.proofs.lemmas.Bool.{eqb-false}
use Rattle.std.proofs.lemmas.List.Sums.{count_by_more_yes, count_by_more_no, sum_by-append}

-- how often a caller has a turn
abbrev pub turn_count : List ℕ → ℕ → ℕ
turn_count turns caller = count_by (λ turn. nat_eq turn caller) turns

-- each caller's count is how often it had one of the first so many turns
pub record CountsTurns (given turns : List ℕ) (played : ℕ) : Type 0 where
  pub each : (caller : ℕ) → slice_index given caller ≡ turn_count (take played turns) caller

-- a front of a list has no more of what is counted
pub count_by-take : {X : Type 0} (p : X → Bool) (n : ℕ) (xs : List X) → count_by p (take n xs) ≤ count_by p xs
count_by-take p n xs =
    let parts = sum_by-append (λ x. cond (p x) 1 0) (take n xs) (drop n xs) in
    let whole = ap (count_by p) (take-append-drop n xs) in omega (arith, parts, whole)

-- whose turn it is has had fewer turns than it has in all
pub turn_comes : (turns : List ℕ) (i : ℕ) → i < length turns → turn_count (take i turns) (get_or turns i 0) < turn_count turns (get_or turns i 0)
turn_comes turns i within =
    let caller = get_or turns i 0 in
    let test : ℕ → Bool = λ turn. nat_eq turn caller in
    let one_more : count_by test (take (i + 1) turns) ≡ count_by test (take i turns) + 1 =
    count_by_more_yes test turns i 0 within (eq-eqb caller caller refl) in
    let most : count_by test (take (i + 1) turns) ≤ count_by test turns = count_by-take test (i + 1) turns in
    omega (arith, one_more, most)

pub turn_left : (given turns : List ℕ) (i : ℕ) → CountsTurns given turns i → i < length turns
    → slice_index given (get_or turns i 0) < turn_count turns (get_or turns i 0)
turn_left given turns i counted within =
    let now : slice_index given (get_or turns i 0) ≡ turn_count (take i turns) (get_or turns i 0) = counted.each (get_or turns i 0) in
    omega (arith, now, turn_comes turns i within)

-- one more turn
pub CountsTurns-more : (given turns : List ℕ) (i : ℕ) → CountsTurns given turns i → i < length turns → get_or turns i 0 < length given
    → CountsTurns (slice_set given (get_or turns i 0) (slice_index given (get_or turns i 0) + 1)) turns (i + 1)
CountsTurns-more given turns i counted within known = record {
  each = λ caller.
      let turn = get_or turns i 0 in
      let more = slice_index given turn + 1 in
      elim (nat_eq turn caller) as (λ b. nat_eq turn caller ≡ b → slice_index (slice_set given turn more) caller ≡ turn_count (take (i + 1) turns) caller) [
        | true ↦ λ (e : nat_eq turn caller ≡ true).
            let same : turn ≡ caller = eqb-true turn caller e in
            ap (slice_index (slice_set given turn more)) (sym same) ∙ get_or-set_same given turn more 0 known
            ∙ ap (λ n. n + 1) (counted.each turn ∙ ap (turn_count (take i turns)) same)
            ∙ sym (count_by_more_yes (λ turn. nat_eq turn caller) turns i 0 within e)
        | false ↦ λ (e : nat_eq turn caller ≡ false).
            get_or-set_other given turn caller more 0 (λ other. eqb-false turn caller e (sym other)) ∙ counted.each caller
            ∙ sym (count_by_more_no (λ turn. nat_eq turn caller) turns i 0 within e)
      ]
      refl;
}

-- no turn was played
pub CountsTurns-none : (n : ℕ) (turns : List ℕ) → CountsTurns (replicate n 0) turns 0
CountsTurns-none n turns = record { each = zeros n }
  where
    zeros : (n : ℕ) → (caller : ℕ) → slice_index (replicate n 0) caller ≡ 0
    zeros zero caller = refl
    zeros (suc n) zero = refl
    zeros (suc n) (suc caller) = zeros n caller
