-- The quarters of a delivery day by their places, and the periods for which something counts.
use Rattle.std.specs.Prelude.{ℕ, ◌+◌, ◌/◌, ◌%◌, Bool}
use Rattle.order_kinds.specs.declared.contract.Quarter.{Quarter}
use Rattle.order_kinds.specs.Period.{block_has, contract_has, range_has}
use Rattle.ship_schedule.specs.declared.period.Period.{Period}
use Rattle.ship_schedule.specs.declared.period.Period.TheVariants as period

-- the quarter at a place of the day, counted from 0: four of each hour, the hours from 1
abbrev pub quarter_at : (place : ℕ) → Quarter
quarter_at place = record { hour = place / 4 + 1; number = place % 4 + 1 }

-- a period has a quarter: a contract, the hours of a block, or a range of quarters
abbrev pub period_has : Period → Quarter → Bool
period_has (period.Contract contract) quarter = contract_has contract quarter
period_has (period.Hours first last) quarter = block_has first last quarter
period_has (period.Range first last) quarter = range_has first last quarter
