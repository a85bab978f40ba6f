-- The number of more and more digits, and how large it is.
use Rattle.std.proofs.Common.{◌≡◌, ◌∙◌, ℕ, ◌+◌, ◌-◌, ◌*◌, ◌^◌, ◌<◌, ◌≤◌, Bool, true, false, cond, List, [], ◌∷◌, length, take, get_or, arith, add-one, refl, sym, Some, None}
use Rattle.std.proofs.lemmas.Bool.{and_from, true≢false}
use Rattle.std.proofs.lemmas.List.{take_more}
use Rattle.std.proofs.lemmas.List.Folds.{list_all-append}
use Rattle.std.proofs.lemmas.List.Sums.{fold_more}
use Rattle.std.proofs.Math.Nat.{pow-succ', pow-le-pow_right}
use Rattle.std.proofs.lemmas.Bool.Decides.{nat_tests}
use Rattle.std.proofs.lemmas.List.Sums.{AllPass-from_list_all}
use Rattle.std.specs.Char.{is_ascii_digit}
use Rattle.std.specs.List.{list_all}
use Rattle.market_spelling.specs.Numbers.{digit_of, digits_value, number_of}

-- no digits
pub digits_value_none : digits_value [] ≡ 0
unfolding digits_value
digits_value_none = refl

-- one digit more
pub digits_value_more : (digits : List ℕ) (i : ℕ) → i < length digits
    → digits_value (take (i + 1) digits) ≡ 10 * digits_value (take i digits) + (get_or digits i 0 - 48)
unfolding digits_value
digits_value_more digits i h = fold_more (λ value digit. 10 * value + (digit - 48)) 0 digits i 0 h

-- a number of at most eight digits
pub eight_digits : (value i : ℕ) → value < 10 ^ i → i ≤ 8 → value < 100000000
eight_digits value i h le = omega (arith, pow-le-pow_right {n = 10} (omega arith) le)

-- one digit more makes a number below the next power
pub below_next_power : (value i digit : ℕ) → value < 10 ^ i → digit ≤ 9 → 10 * value + digit < 10 ^ (i + 1)
below_next_power value i digit h d = rw (add-one, pow-succ') (omega arith)

-- a number with fewer digits than allowed
pub below_power : (value i most : ℕ) → value < 10 ^ i → i ≤ most → value < 10 ^ most
below_power value i most h le = omega (arith, pow-le-pow_right {n = 10} (omega arith) le)

-- a byte that is read as a digit
pub digit_there : (byte digit : ℕ) → digit_of byte ≡ Some digit → (is_ascii_digit byte ≡ true) × (digit ≡ byte - 48)
unfolding digit_of
digit_there byte digit h = by (is_ascii_digit byte) refl h
  where
    by : (b : Bool) → is_ascii_digit byte ≡ b → cond b (Some (byte - 48)) None ≡ Some digit → (is_ascii_digit byte ≡ true) × (digit ≡ byte - 48)
    by true e some = (e, cc)
    by false e some = cc

-- one digit more is read
pub digits_more : (digits : List ℕ) (i : ℕ) → i < length digits → list_all is_ascii_digit (take i digits) ≡ true
    → is_ascii_digit (get_or digits i 0) ≡ true → list_all is_ascii_digit (take (i + 1) digits) ≡ true
digits_more digits i lt so_far is =
    rw (take_more digits i 0 lt)
    (list_all-append is_ascii_digit (take i digits) (get_or digits i 0 ∷ []) ∙ and_from _ _ so_far (and_from _ _ is refl))

-- bytes of which one is read as no digit are no number
pub none_read : (most : ℕ) (bytes : List ℕ) (i : ℕ) → i < length bytes → digit_of (get_or bytes i 0) ≡ None → None ≡ number_of most bytes
unfolding digit_of number_of
none_read most bytes i lt none = by (is_ascii_digit (get_or bytes i 0)) (list_all is_ascii_digit bytes) refl refl none
  where
    by : (b all : Bool) → is_ascii_digit (get_or bytes i 0) ≡ b → list_all is_ascii_digit bytes ≡ all
        → cond b (Some (get_or bytes i 0 - 48)) None ≡ None → None ≡ number_of most bytes
    by true all e _ some = cc
    by false true e all _ = absurd (true≢false (sym (AllPass-from_list_all is_ascii_digit bytes all i 0 lt) ∙ e))
    by false false e all _ = grind (arith, nat_tests, all)
