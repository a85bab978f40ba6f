-- The numbers from 1 to 100000 and their decimal spellings.
use Rattle.std.proofs.Common.{◌≡◌, ◌∙◌, ℕ, zero, suc, ◌<◌, ◌≤◌, ◌&&◌, ◌^◌, Bool, true, false, List, [], ◌∷◌, get_or, Some, None, refl, sym, ap, subst, arith, slice_index, true≢false, decimal, le-leb, leb-true}
use Rattle.std.specs.Prelude.{Decides, nat_le, if◌then◌else◌}
use Rattle.std.specs.Str.{IsUtf8}
use Rattle.std.specs.Str.Parse.{IsNumeral, digits_value}
use Rattle.std.proofs.lemmas.Bool.Decides.{Decides-and, nat_tests}
use Rattle.std.proofs.lemmas.Fmt.{IsAscii-from_digits, decimal-digits_value, decimal_digit, decimal_is_IsNumeral, first_decimal}
use Rattle.std.proofs.lemmas.Str.{IsUtf8-from_ascii}
use Rattle.std.proofs.lemmas.Str.Parse.{digit_from_value, numerals_by_value, tells_digits}
use Rattle.std.proofs.lemmas.Slice.Eq.{bytes_eq-Decides}
use Rattle.command_words.specs.Words.{count_of, is_count}

-- a word spells a number from 1 to 100000
abbrev pub Spells : List ℕ → ℕ → Type 0
Spells word n = (word ≡ decimal n) × ((1 ≤ n) × (n ≤ 100000))

spells : (word : List ℕ) (n : ℕ) → Decides (is_count word n) (Spells word n)
spells word n = Decides-and _ _ (bytes_eq-Decides word (decimal n)) (Decides-and _ _ (leb-true 1 n, le-leb 1 n) (leb-true n 100000, le-leb n 100000))

-- a spelling's digits have the value of its number
value-of : (word : List ℕ) (n : ℕ) → Spells word n → digits_value 10 word ≡ n
value-of word n s = ap (digits_value 10) s.0 ∙ (decimal_is_IsNumeral n (omega (arith, s.1.1))).1

-- where a word spells a number, that is what it counts
pub counts : (word : List ℕ) (n : ℕ) → Spells word n → count_of word ≡ Some n
unfolding count_of
counts word n s =
    let value = value-of word n s in
    let yes : is_count word (digits_value 10 word) ≡ true = ap (is_count word) value ∙ (spells word n).1 s in
    rw yes (ap Some value)

-- where it spells none, it counts nothing
pub counts-nothing : (word : List ℕ) → ((n : ℕ) → Spells word n → ⊥) → count_of word ≡ None
unfolding count_of
counts-nothing word none = by (is_count word (digits_value 10 word)) refl
  where
    by : (b : Bool) → is_count word (digits_value 10 word) ≡ b
        → (if b then Some (digits_value 10 word) else None) ≡ None
    by true e = absurd (none (digits_value 10 word) ((spells word (digits_value 10 word)).0 e))
    by false e = refl

-- a word that counts something spells it
pub spelled : (word : List ℕ) (n : ℕ) → count_of word ≡ Some n → Spells word n
unfolding count_of
spelled word n e = by (is_count word (digits_value 10 word)) refl e
  where
    by : (b : Bool) → is_count word (digits_value 10 word) ≡ b
        → (if b then Some (digits_value 10 word) else None) ≡ Some n → Spells word n
    by true holds f =
        let same : digits_value 10 word ≡ n = cc in
        subst (Spells word) same ((spells word (digits_value 10 word)).0 holds)
    by false holds f = cc

-- ---- what the bytes of a spelling are

-- it begins with a digit from 1 to 9
pub begins : (word : List ℕ) (n : ℕ) → Spells word n → (48 < get_or word 0 0) × (get_or word 0 0 < 58)
begins word n s =
    let small : n < 2 ^ 64 = omega (arith, s.1.1) in
    let digits = (decimal_is_IsNumeral n small).0 in
    rw s.0 (first_decimal n (omega (arith, s.1.0)) small, first-digit (decimal n) digits)
  where
    first-digit : (ds : List ℕ) → IsNumeral 10 ds → get_or ds 0 0 < 58
    first-digit [] d = absurd (omega (arith, d.0))
    first-digit (c ∷ cs) d = let range = digit_from_value c d.1.0 in omega (arith, range)

-- it is read as its number
pub is-numeral : (word : List ℕ) (n : ℕ) → Spells word n → IsNumeral 10 word × (digits_value 10 word ≡ n)
is-numeral word n s = rw s.0 (decimal_is_IsNumeral n (omega (arith, s.1.1)))

-- digits are text
pub numeral-is-text : (word : List ℕ) → IsNumeral 10 word → IsUtf8 word
numeral-is-text word digits = IsUtf8-from_ascii word (IsAscii-from_digits word digits.1)

-- digits that begin with none but a digit above 0, and have a value of at most 100000, spell it
pub spelling : (word : List ℕ) → IsNumeral 10 word → 48 < get_or word 0 0 → digits_value 10 word ≤ 100000 → Spells word (digits_value 10 word)
spelling word digits first most =
    let same : decimal (digits_value 10 word) ≡ word =
    decimal-digits_value (numerals_by_value _ tells_digits) word digits.1 digits.0 (λ e. absurd (omega (arith, first, e))) (omega (arith, most)) in
    (sym same, (some (digits_value 10 word) same, most))
  where
    some : (value : ℕ) → decimal value ≡ word → 1 ≤ value
    some zero e =
        let nought : 48 ≡ get_or word 0 0 = sym (ap (λ ds. get_or ds 0 0) (decimal_digit 0 (omega arith))) ∙ ap (λ ds. get_or ds 0 0) e in
        absurd (omega (arith, nought, first))
    some (suc value) e = omega arith

-- ---- what the tests of a word tell

-- the first byte is a digit from 1 to 9
abbrev above-zero : List ℕ → Bool
above-zero word = nat_le 49 (slice_index word 0) && nat_le (slice_index word 0) 57

-- a word that begins otherwise spells none
pub begins-otherwise : (word : List ℕ) → above-zero word ≡ false → None ≡ count_of word
begins-otherwise word otherwise = sym (counts-nothing word (λ n s. no n s (begins word n s)))
  where
    no : (n : ℕ) → Spells word n → (48 < get_or word 0 0) × (get_or word 0 0 < 58) → ⊥
    no n s range =
        let yes : above-zero word ≡ true = grind (arith, nat_tests) in
        true≢false (sym yes ∙ otherwise)

-- nor does one that has not digits of a number below 2^32 alone
pub unread : (word : List ℕ) → ¬ (IsNumeral 10 word × (digits_value 10 word < 2 ^ 32)) → None ≡ count_of word
unread word not_digits = sym (counts-nothing word (λ n s.
    let read = is-numeral word n s in not_digits (read.0, omega (arith, read.1, s.1.1))))

-- nor one of too great a number
pub too-great : (word : List ℕ) (n : ℕ) → digits_value 10 word ≡ n → 100000 < n → None ≡ count_of word
too-great word n value great = sym (counts-nothing word (λ m s. omega (arith, (is-numeral word m s).1, value, s.1.1, great)))

-- all others do
pub just-so : (word : List ℕ) (n : ℕ) → above-zero word ≡ true → IsNumeral 10 word → digits_value 10 word ≡ n → n ≤ 100000 → Some n ≡ count_of word
just-so word n begins_so digits value most =
    let first : 48 < get_or word 0 0 = grind (arith, nat_tests) in
    sym (counts word n (subst (Spells word) value (spelling word digits first (omega (arith, value, most)))))
