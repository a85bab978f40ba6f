-- The test on signed bytes is the test on the numbers.
use Rattle.std.proofs.Common.{◌≡◌, ◌+◌, ◌-◌, pos, ◌+ℤ◌, ◌-ℤ◌, to_z, of_z, w8, arith}
use Rattle.std.proofs.lemmas.Int.{ints}
use Rattle.jiff_core.proofs.CalendarLemmas.{days_in_month_bounds, weekday_number_bound}
use Rattle.jiff_core.specs.Date.{epoch_day, weekday_of}
use Rattle.contract_calendar.proofs.ClockLemmas.{le-nat_le}
use Rattle.contract_calendar.proofs.clock.has_sunday_left.Goals as goal

pub returns : goal.returns
returns c =
    let small = weekday_number_bound (epoch_day c.args.date) in
    let month = days_in_month_bounds c.args.date.year c.args.date.month in
    let day : to_z w8 (of_z w8 (to_z w8 (of_z w8 c.day.result) +ℤ to_z w8 (of_z w8 (pos 6 -ℤ to_z w8 (of_z w8 c.to_monday_zero_offset.result))))) ≡ pos (c.args.date.day + (6 - weekday_of c.args.date)) =
    omega (arith, ints) in
    le-nat_le _ (c.args.date.day + (6 - weekday_of c.args.date)) 31 day
