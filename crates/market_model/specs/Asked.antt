-- The quarters for which an offer or a request asks.
use Rattle.std.specs.Prelude.{ℕ, ◌&&◌, Bool, filter, Option}
use Rattle.order_kinds.specs.declared.contract.Quarter.{Quarter}
use Rattle.order_kinds.specs.Period.{hour_quarters, is_not_after}
use Rattle.market_model.specs.Sweep.{first_answer}
use Rattle.market_model.specs.declared.asked.Asked.{Asked}

-- a quarter is not before the first nor after the last
abbrev pub is_asked : Asked → Quarter → Bool
is_asked asked quarter = is_not_after asked.first quarter && is_not_after quarter asked.last

-- the first answer of those quarters of an hour that are asked for
unfoldable pub first_in_hour : {Y : Type 0} → (Quarter → Option Y) → Asked → (hour : ℕ) → Option Y
first_in_hour ask asked hour = first_answer ask (filter (is_asked asked) (hour_quarters hour))
