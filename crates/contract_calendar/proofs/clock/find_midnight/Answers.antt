-- Midnight is 22:00 UTC of the day before where it is then summer, else 23:00 UTC.
use Rattle.std.proofs.Common.{arith, ◌≡◌, ◌∙◌, sym, ap}
use Rattle.std.proofs.lemmas.Int.{ints}
use Rattle.jiff_core.specs.Date.{epoch_day}
use Rattle.contract_calendar.proofs.ClockLemmas.{midnight-summer, midnight-winter}
use Rattle.contract_calendar.proofs.clock.find_midnight.Goals as goal

pub returns-then-starts_in_summer-clause-value : goal.returns-then-starts_in_summer-clause-value
returns-then-starts_in_summer-clause-value c =
    let day : c.to_unix_epoch_day.result ≡ epoch_day c.args.date = c.to_unix_epoch_day.ensures.value ∙ ap epoch_day c.to_plain.ensures in
    let midnight = midnight-summer c.args.date (sym c.starts_in_summer.ensures ∙ c.if-starts_in_summer.true) in
    omega (arith, ints)

pub returns-else-starts_in_summer-clause-value : goal.returns-else-starts_in_summer-clause-value
returns-else-starts_in_summer-clause-value c =
    let day : c.to_unix_epoch_day.result ≡ epoch_day c.args.date = c.to_unix_epoch_day.ensures.value ∙ ap epoch_day c.to_plain.ensures in
    let midnight = midnight-winter c.args.date (sym c.starts_in_summer.ensures ∙ c.if-starts_in_summer.false) in
    omega (arith, ints)
