-- How numbers, quantities, amounts of cents and prices are spelled: the value that bytes spell, or
-- none where they are no spelling.
use Rattle.std.specs.Prelude.{ℕ, zero, suc, ◌+◌, ◌-◌, ◌*◌, Bool, ◌&&◌, ◌==◌, List, length, take, drop, pos, neg_ℤ, Option, Some, None, nat_lt, nat_le, fold, slice_index, if◌then◌else◌}
use Rattle.std.specs.List.{list_all}
use Rattle.std.specs.Char.{is_ascii_digit}
use Rattle.order_kinds.specs.declared.price.Lots.{Lots}
use Rattle.order_kinds.specs.declared.price.Price.{Price}
use Rattle.market_spelling.specs.Chain.{◌>>=◌}

-- the number that decimal digits stand for
unfoldable pub digits_value : List ℕ → ℕ
digits_value digits = fold (λ value digit. 10 * value + (digit - 48)) 0 digits

-- one to so many decimal digits
unfoldable pub number_of : ℕ → List ℕ → Option ℕ
number_of most bytes =
    if nat_lt 0 (length bytes) && nat_le (length bytes) most && list_all is_ascii_digit bytes
    then Some (digits_value bytes) else None

-- one decimal digit
unfoldable pub digit_of : ℕ → Option ℕ
digit_of byte = if is_ascii_digit byte then Some (byte - 48) else None

-- the byte that stands so many places before the last
abbrev pub from_end : ℕ → List ℕ → ℕ
from_end places bytes = slice_index bytes (length bytes - (places + 1))

-- all bytes but the last so many
abbrev pub without_last : ℕ → List ℕ → List ℕ
without_last count bytes = take (length bytes - count) bytes

-- this byte stands so many places before the last
abbrev pub has_from_end : (byte places : ℕ) → List ℕ → Bool
has_from_end byte places bytes = nat_lt places (length bytes) && (from_end places bytes == byte)

-- the whole part of a number with a point: no 0 in front of a digit, and at most seven digits
unfoldable pub whole_of : List ℕ → Option ℕ
whole_of bytes =
    if nat_lt 1 (length bytes) && (slice_index bytes 0 == 48) then None else number_of 7 bytes

-- a quantity: a whole part, a point and one digit, the tenths
unfoldable pub quantity_of : List ℕ → Option Lots
quantity_of bytes = if has_from_end 46 1 bytes then amount else None
  where
    amount : Option Lots
    amount = do
      whole ← whole_of (without_last 2 bytes)
      tenth ← digit_of (from_end 0 bytes)
      Some (record { 0 = 10 * whole + tenth })

-- an amount of cents: a whole part, a point and two digits
unfoldable pub cents_of : List ℕ → Option ℕ
cents_of bytes = if has_from_end 46 2 bytes then amount else None
  where
    amount : Option ℕ
    amount = do
      whole ← whole_of (without_last 3 bytes)
      tenth ← digit_of (from_end 1 bytes)
      hundredth ← digit_of (from_end 0 bytes)
      Some (100 * whole + 10 * tenth + hundredth)

-- the price below 0 of an amount, which is not 0
abbrev pub below_zero : ℕ → Option Price
below_zero zero = None
below_zero (suc cents) = Some (record { 0 = neg_ℤ (pos (suc cents)) })

-- a price: an amount of cents, with a minus sign in front where it is below 0
unfoldable pub price_of : List ℕ → Option Price
price_of bytes =
    if nat_lt 0 (length bytes) && (slice_index bytes 0 == 45) then (cents_of (drop 1 bytes) >>= below_zero)
    else (cents_of bytes >>= λ cents. Some (record { 0 = pos cents }))
