-- How hours, contracts, quarters and the names of orders are spelled.
use Rattle.std.specs.Prelude.{ℕ, ◌&&◌, ◌==◌, List, length, drop, Option, Some, None, nat_lt, slice_index, if◌then◌else◌}
use Rattle.order_kinds.specs.declared.contract.Contract.{Contract}
use Rattle.order_kinds.specs.declared.contract.Part.{Part}
use Rattle.order_kinds.specs.declared.contract.Part.TheVariants as part
use Rattle.order_kinds.specs.declared.contract.Quarter.{Quarter}
use Rattle.order_kinds.specs.declared.order.OrderName.{OrderName}
use Rattle.market_spelling.specs.Chain.{◌>>=◌}
use Rattle.market_spelling.specs.Numbers.{number_of, digit_of, from_end, without_last, has_from_end}
use Rattle.market_spelling.specs.Words.{parts_around}

-- an hour: `h` and one or two digits
unfoldable pub hour_of : List ℕ → Option ℕ
hour_of bytes =
    if nat_lt 0 (length bytes) && (slice_index bytes 0 == 104) then number_of 2 (drop 1 bytes) else None

-- the contract of an hour
abbrev pub whole_hour : List ℕ → Option Contract
whole_hour bytes = do
  hour ← hour_of bytes
  Some (record { hour = hour; part = part.Hour })

-- the contract of a numbered part of an hour: the hour, a letter and the digit
abbrev pub part_of_hour : (ℕ → Part) → List ℕ → Option Contract
part_of_hour part bytes = do
  number ← digit_of (from_end 0 bytes)
  hour ← hour_of (without_last 2 bytes)
  Some (record { hour = hour; part = part number })

-- a contract: an hour, or an hour with `q` and a quarter or with `f` and a half
unfoldable pub contract_of : List ℕ → Option Contract
contract_of bytes =
    if has_from_end 113 1 bytes then part_of_hour part.Quarter bytes
    else (if has_from_end 102 1 bytes then part_of_hour part.Half bytes else whole_hour bytes)

-- a quarter: an hour with `q` and the quarter
unfoldable pub quarter_of : List ℕ → Option Quarter
quarter_of bytes = if has_from_end 113 1 bytes then quarter else None
  where
    quarter : Option Quarter
    quarter = do
      number ← digit_of (from_end 0 bytes)
      hour ← hour_of (without_last 2 bytes)
      Some (record { hour = hour; number = number })

-- the name of an order: an hour, `#` and one to nine digits
unfoldable pub order_name_of : List ℕ → Option OrderName
order_name_of bytes = do
  parts ← parts_around 35 bytes
  hour ← hour_of parts.0
  number ← number_of 9 parts.1
  Some (record { hour = hour; number = number })
