-- Prices and quantities: which are allowed, and how they are printed.
use Rattle.std.specs.Prelude.{ℕ, suc, ◌+◌, ◌/◌, ◌%◌, Bool, ◌&&◌, List, [], ◌∷◌, ◌++◌, ℤ, pos, negsuc, neg_ℤ, int_le, nat_le, decimal, codes}
use Rattle.order_kinds.specs.declared.price.Price.{Price}
use Rattle.order_kinds.specs.declared.price.Lots.{Lots}

-- the price is allowed: -9999.00 to 9999.00 a MWh
abbrev pub price_in_range : Price → Bool
price_in_range price = int_le (neg_ℤ (pos 999900)) price.0 && int_le price.0 (pos 999900)

-- the quantity is allowed: 0.1 to 999.0 MW
abbrev pub lots_in_range : Lots → Bool
lots_in_range lots = nat_le 1 lots.0 && nat_le lots.0 9990

-- the ASCII digit of a number below ten
abbrev pub digit : ℕ → ℕ
digit n = 48 + n

-- an amount of cents: the whole units, a point, and two digits
abbrev pub cents_text : ℕ → List ℕ
cents_text cents =
    decimal (cents / 100) ++ (codes "." ++ (digit (cents / 10 % 10) ∷ digit (cents % 10) ∷ []))

-- a price: the amount of its cents, after a minus sign where the price is below 0
abbrev pub price_text : Price → List ℕ
price_text price = signed_text price.0
  where
    signed_text : ℤ → List ℕ
    signed_text (pos cents) = cents_text cents
    signed_text (negsuc n) = codes "-" ++ cents_text (suc n)

-- a quantity: the whole megawatts, a point, and the digit of the tenths
abbrev pub lots_text : Lots → List ℕ
lots_text lots = decimal (lots.0 / 10) ++ (codes "." ++ (digit (lots.0 % 10) ∷ []))
