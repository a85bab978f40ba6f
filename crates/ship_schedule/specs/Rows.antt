-- Rows of sums: for each quarter of the day, by its place, and for each number of a row two sums of
-- lots, one that counts for it and one that counts against it.
use Rattle.std.specs.Prelude.{◌≡◌, ℕ, suc, ◌+◌, ◌<◌, ◌==◌, ◌&&◌, Bool, true, false, List, [], ◌++◌, length, replicate, slice_index_or, ℤ, pos, negsuc, ◌-ℤ◌, codes}
use Rattle.order_kinds.specs.Price.{lots_text}
use Rattle.zone_graph.specs.Pour.{lots_if, same_bool}
use Rattle.ship_schedule.specs.declared.balance.Balance.{Balance}

-- nothing for and nothing against
abbrev pub nothing : Balance
nothing = record { plus = 0; minus = 0 }

-- the sum of a balance that counts for it, or the one against it
abbrev pub sum_of : Balance → (way : Bool) → ℕ
sum_of balance true = balance.plus
sum_of balance false = balance.minus

-- the row of a place of the day, and the balance of a number in it
abbrev pub row_at : List (List Balance) → (place : ℕ) → List Balance
row_at rows place = slice_index_or rows place []

abbrev pub in_row : List Balance → (number : ℕ) → Balance
in_row row number = slice_index_or row number nothing

abbrev pub balance_at : List (List Balance) → (place number : ℕ) → Balance
balance_at rows place number = in_row (row_at rows place) number

-- one of the two sums of a number at a place
abbrev pub amount : List (List Balance) → (place number : ℕ) → (way : Bool) → ℕ
amount rows place number way = sum_of (balance_at rows place number) way

-- the rows have this number at this place
abbrev pub InRows : List (List Balance) → (place number : ℕ) → Type 0
InRows rows place number = number < length (row_at rows place)

-- the rows are as long as before
abbrev pub SameShape : (old new : List (List Balance)) → Type 0
SameShape old new = (place : ℕ) → length (row_at new place) ≡ length (row_at old place)

-- lots are counted in a row: for each number and way that counts, so many more
abbrev pub CountedIn : (old new : List Balance) → (counts : (number : ℕ) → (way : Bool) → Bool) → (lots : ℕ) → Type 0
CountedIn old new counts lots = (number : ℕ) (way : Bool) → number < length old
    → sum_of (in_row new number) way ≡ sum_of (in_row old number) way + lots_if (counts number way) lots

-- lots are counted in rows: for each place, number and way that counts, so many more
abbrev pub Counted : (old new : List (List Balance)) → (counts : (place number : ℕ) → (way : Bool) → Bool) → (lots : ℕ) → Type 0
Counted old new counts lots = (place number : ℕ) (way : Bool) → InRows old place number
    → amount new place number way ≡ amount old place number way + lots_if (counts place number way) lots

-- so many rows of so many numbers, all of them nothing
abbrev pub empty_rows : (count width : ℕ) → List (List Balance)
empty_rows count width = replicate count (replicate width nothing)

-- something counts for this number in this way
abbrev pub is_number : (number : ℕ) → (way : Bool) → (other : ℕ) → (its : Bool) → Bool
is_number number way other its = (number == other) && same_bool way its

-- what is for a balance less what is against it
abbrev pub net : Balance → ℤ
net balance = pos balance.plus -ℤ pos balance.minus

-- lots with a sign, in MW: a minus sign in front of those below 0
abbrev pub signed_text : ℤ → List ℕ
signed_text (pos lots) = lots_text (record { 0 = lots })
signed_text (negsuc n) = codes "-" ++ lots_text (record { 0 = suc n })
