-- Contracts: the quarters of a part of an hour, which parts there are, and how they are printed.
use Rattle.std.specs.Prelude.{ℕ, ◌+◌, ◌-◌, ◌*◌, Bool, true, ◌&&◌, ◌==◌, List, [], ◌∷◌, ◌++◌, nat_le, decimal, codes, if◌then◌else◌}
use Rattle.std.specs.List.{list_any}
use Rattle.order_kinds.specs.declared.contract.Part.{Part}
use Rattle.order_kinds.specs.declared.contract.Part.TheVariants as part
use Rattle.order_kinds.specs.declared.contract.Contract.{Contract}
use Rattle.order_kinds.specs.declared.contract.Quarter.{Quarter}

-- the numbers of the quarters in which a part of an hour delivers: quarter q has q alone, and
-- half h has 2 h - 1 and 2 h
abbrev pub quarters : Part → List ℕ
quarters part.Hour = 1 ∷ 2 ∷ 3 ∷ 4 ∷ []
quarters (part.Quarter number) = number ∷ []
quarters (part.Half number) = (2 * number - 1) ∷ (2 * number) ∷ []

-- a part delivers in the quarter of this number
abbrev pub covers : Part → ℕ → Bool
covers part quarter = list_any (λ number. number == quarter) (quarters part)

-- an hour has this part: its quarters are 1 to 4, its halves 1 and 2
abbrev pub is_known : Part → Bool
is_known part.Hour = true
is_known (part.Quarter number) = nat_le 1 number && nat_le number 4
is_known (part.Half number) = nat_le 1 number && nat_le number 2

-- the number of a part of the hour: the hour has 0, its quarters 1 to 4, its halves 5 and 6
abbrev pub part_number : Part → ℕ
part_number part.Hour = 0
part_number (part.Quarter number) = number
part_number (part.Half number) = 4 + number

-- the part of an hour that has this number
abbrev pub part_at : ℕ → Part
part_at number =
    if number == 0 then part.Hour
    else if nat_le number 4 then part.Quarter number
    else part.Half (number - 4)

-- the contract of the part of this number
abbrev pub contract_at : (hour number : ℕ) → Contract
contract_at hour number = record { hour = hour; part = part_at number }

-- an hour: `h` and its number
abbrev pub hour_text : ℕ → List ℕ
hour_text hour = codes "h" ++ decimal hour

-- a quarter of the hour: the hour, `q` and its number
abbrev pub quarter_text : Quarter → List ℕ
quarter_text quarter = hour_text quarter.hour ++ (codes "q" ++ decimal quarter.number)

-- a contract: the hour alone, or the hour with `q` and the quarter, or with `f` and the half
abbrev pub contract_text : Contract → List ℕ
contract_text contract = of_part contract.part
  where
    of_part : Part → List ℕ
    of_part part.Hour = hour_text contract.hour
    of_part (part.Quarter number) = hour_text contract.hour ++ (codes "q" ++ decimal number)
    of_part (part.Half number) = hour_text contract.hour ++ (codes "f" ++ decimal number)
