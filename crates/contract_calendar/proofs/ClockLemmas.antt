-- When the clock is ahead of UTC by how much, in terms of day numbers, and where the days meet.
use Rattle.std.proofs.Common.{◌≡◌, ◌↔◌, ℕ, ◌+◌, ◌-◌, ◌%◌, ◌<◌, ◌≤◌, Bool, true, false, not, ◌&&◌, nat_le, int_le, int_lt, ℤ, pos, ◌+ℤ◌, ◌-ℤ◌, ◌<ℤ◌, ◌≤ℤ◌, refl, sym, ap, ◌∙◌, arith, rules}
use Rattle.std.proofs.lemmas.Bool.Decides.{nat_tests}
use Rattle.std.proofs.lemmas.Int.{ints, by_lt_z}
use Rattle.std.proofs.lemmas.Bool.{and_left, and_right, true≢false}
use Rattle.std.proofs.Math.Bool.{and-true}
use borrow.Author.Differences.{true_is_lt, false_is_lt, true_is_le, false_is_le}
use Rattle.jiff_core.specs.declared.civil.date.Date.{Date}
use Rattle.jiff_core.specs.Calendar.{days_from_civil, weekday_number, IsYear, IsCivilDate}
use Rattle.jiff_core.specs.Date.{epoch_day, weekday_of}
use Rattle.jiff_core.proofs.SignedLemmas.{signed_arith}
use Rattle.jiff_core.proofs.CalendarLemmas.{days_from_civil-day_count, days_in_month_bounds, day_count-lt_month, weekday_number_bound}
use Rattle.jiff_core.proofs.DateLemmas.{civil, days_from_civil-day, weekday_number-day}
use Rattle.contract_calendar.specs.Clock.{day_start, last_day, last_sunday, is_summer, seconds_ahead, ShowsMidnight, midnight_of}

le_from_lt : (a b : ℤ) → a <ℤ b → a ≤ℤ b
le_from_lt a b h = omega (arith, signed_arith)

-- what the tests of an order give
pub le_yes : (a b : ℤ) → a ≤ℤ b → int_le a b ≡ true
le_yes a b h = sym (true_is_le a b (omega (arith, signed_arith)))

pub le_no : (a b : ℤ) → b <ℤ a → int_le a b ≡ false
le_no a b h = sym (false_is_le a b (omega (arith, signed_arith)))

pub lt_yes : (a b : ℤ) → a <ℤ b → int_lt a b ≡ true
lt_yes a b h = sym (true_is_lt a b (omega (arith, signed_arith)))

pub lt_no : (a b : ℤ) → b ≤ℤ a → int_lt a b ≡ false
lt_no a b h = sym (false_is_lt a b (omega (arith, signed_arith)))

-- the last Sunday is one of the last seven days of its month
pub last_sunday_bounds : (y : ℤ) (m : ℕ) → (last_sunday y m ≤ℤ last_day y m) × (last_day y m ≤ℤ (last_sunday y m +ℤ pos 6))
unfolding last_sunday
last_sunday_bounds y m = omega (arith, signed_arith)

-- a change of the clock comes before the next midnight and after the one before
change_begun : (sunday day : ℤ) (back : ℕ) → back ≤ 7_200 → int_le (day_start sunday +ℤ pos 3_600) (day_start day -ℤ pos back) ≡ int_lt sunday day
change_begun sunday day back h =
    by_lt_z sunday day
    (λ lt. le_yes (day_start sunday +ℤ pos 3_600) (day_start day -ℤ pos back) (omega (arith, signed_arith)) ∙ sym (lt_yes sunday day lt))
    (λ le. le_no (day_start sunday +ℤ pos 3_600) (day_start day -ℤ pos back) (omega (arith, signed_arith)) ∙ sym (lt_no sunday day le))

change_to_come : (sunday day : ℤ) (back : ℕ) → back ≤ 7_200 → int_lt (day_start day -ℤ pos back) (day_start sunday +ℤ pos 3_600) ≡ int_le day sunday
change_to_come sunday day back h =
    by_lt_z sunday day
    (λ lt. lt_no (day_start day -ℤ pos back) (day_start sunday +ℤ pos 3_600) (omega (arith, signed_arith)) ∙ sym (le_no day sunday lt))
    (λ le. lt_yes (day_start day -ℤ pos back) (day_start sunday +ℤ pos 3_600) (omega (arith, signed_arith)) ∙ sym (le_yes day sunday le))

-- two tests that are equal in turn
both_same : (a b c d : Bool) → a ≡ c → b ≡ d → (a && b) ≡ (c && d)
both_same a b c d e f = rw (e, f)

-- around midnight it is summer from the day after the change of March to the day of that of October
pub is_summer-midnight : (y day : ℤ) (back : ℕ) → back ≤ 7_200 → is_summer y (day_start day -ℤ pos back) ≡ (int_lt (last_sunday y 3) day && int_le day (last_sunday y 10))
is_summer-midnight y day back h =
    both_same _ _ _ _ (change_begun (last_sunday y 3) day back h) (change_to_come (last_sunday y 10) day back h)

-- a date of an earlier month comes before the last Sunday
pub before_month : (d : Date) (m : ℕ) → d.month < m → epoch_day d <ℤ last_sunday d.year m
before_month d m h =
    omega (arith, signed_arith, days_from_civil-day_count, day_count-lt_month d.year d.month d.day m 25 (civil d) (omega arith) h, days_from_civil-day d.year m 25 31 (omega arith) (omega arith), last_sunday_bounds d.year m)

-- a date of a later month comes after it
pub after_month : (d : Date) (m : ℕ) → IsCivilDate d.year m 31 → m < d.month → last_sunday d.year m <ℤ epoch_day d
after_month d m long h =
    omega (arith, signed_arith, days_from_civil-day_count, day_count-lt_month d.year m 31 d.month d.day long d.day_in.0 h, last_sunday_bounds d.year m)

-- March and October have 31 days
pub march : (y : ℤ) → IsYear y → IsCivilDate y 3 31
march y h = (h, search rules, search rules)

pub october : (y : ℤ) → IsYear y → IsCivilDate y 10 31
october y h = (h, search rules, search rules)

-- a date of the month is the last Sunday or before it exactly where a Sunday is left in the month
pub in_month : (d : Date) (m : ℕ) → d.month ≡ m → int_le (epoch_day d) (last_sunday d.year m) ≡ nat_le (d.day + (6 - weekday_of d)) 31
unfolding last_sunday
in_month d m e =
    let day : d.day ≤ 31 = omega (arith, d.day_in, days_in_month_bounds d.year d.month) in
    let place : days_from_civil d.year d.month d.day +ℤ pos 31 ≡ last_day d.year d.month +ℤ pos d.day =
    days_from_civil-day d.year d.month d.day 31 d.day_in.0 (omega arith) in
    let week = weekday_number-day d.year d.month d.day 31 d.day_in.0 day in
    let small = weekday_number_bound (epoch_day d) in
    rw (← e) (by (epoch_day d) (last_day d.year d.month) d.day (weekday_of d) (weekday_number (last_day d.year d.month)) d.day_in.0 day small place week)
  where
    by : (a b : ℤ) (day week last : ℕ) → 1 ≤ day → day ≤ 31 → week < 7 → a +ℤ pos 31 ≡ b +ℤ pos day → last ≡ (week + (31 - day)) % 7 → int_le a (b -ℤ pos ((last + 1) % 7)) ≡ nat_le (day + (6 - week)) 31
    by a b day week last low high small place e = grind (arith, ints, nat_tests)

-- the opposite order has the opposite test
lt-le : (a s : ℤ) → int_lt s a ≡ not (int_le a s)
lt-le a s =
    by_lt_z s a
    (λ lt. lt_yes s a lt ∙ sym (ap not (le_no a s lt)))
    (λ le. lt_no s a le ∙ sym (ap not (le_yes a s le)))

-- in March it is summer at a date's midnight where no Sunday is left
pub summer_march : (d : Date) → d.month ≡ 3 → is_summer d.year (day_start (epoch_day d) -ℤ pos 7_200) ≡ not (nat_le (d.day + (6 - weekday_of d)) 31)
summer_march d e =
    is_summer-midnight d.year (epoch_day d) 7_200 (omega arith)
    ∙ both_same _ _ _ _ (lt-le (epoch_day d) (last_sunday d.year 3) ∙ ap not (in_month d 3 e)) (le_yes (epoch_day d) (last_sunday d.year 10) (le_from_lt _ _ (before_month d 10 (omega arith))))
    ∙ and-true _

-- in October where one is left
pub summer_october : (d : Date) → d.month ≡ 10 → is_summer d.year (day_start (epoch_day d) -ℤ pos 7_200) ≡ nat_le (d.day + (6 - weekday_of d)) 31
summer_october d e =
    is_summer-midnight d.year (epoch_day d) 7_200 (omega arith)
    ∙ both_same _ _ _ _ (lt_yes (last_sunday d.year 3) (epoch_day d) (after_month d 3 (march d.year d.year_in) (omega arith))) (in_month d 10 e)

-- from the day after the change of March to the day of that of October
pub summer_at : (d : Date) → last_sunday d.year 3 <ℤ epoch_day d → epoch_day d ≤ℤ last_sunday d.year 10 → is_summer d.year (day_start (epoch_day d) -ℤ pos 7_200) ≡ true
summer_at d late early =
    is_summer-midnight d.year (epoch_day d) 7_200 (omega arith)
    ∙ both_same _ _ _ _ (lt_yes (last_sunday d.year 3) (epoch_day d) late) (le_yes (epoch_day d) (last_sunday d.year 10) early)

-- up to the day of the change of March
pub winter_to : (d : Date) → epoch_day d ≤ℤ last_sunday d.year 3 → is_summer d.year (day_start (epoch_day d) -ℤ pos 7_200) ≡ false
winter_to d early =
    is_summer-midnight d.year (epoch_day d) 7_200 (omega arith)
    ∙ and_left _ _ (lt_no (last_sunday d.year 3) (epoch_day d) early)

-- after the day of the change of October
pub winter_from : (d : Date) → last_sunday d.year 10 <ℤ epoch_day d → is_summer d.year (day_start (epoch_day d) -ℤ pos 7_200) ≡ false
winter_from d late =
    is_summer-midnight d.year (epoch_day d) 7_200 (omega arith)
    ∙ and_right _ _ (le_no (epoch_day d) (last_sunday d.year 10) late)

-- the same by months
pub summer_between : (d : Date) → 3 < d.month → d.month < 10 → is_summer d.year (day_start (epoch_day d) -ℤ pos 7_200) ≡ true
summer_between d low high =
    summer_at d (after_month d 3 (march d.year d.year_in) low) (le_from_lt _ _ (before_month d 10 high))

pub winter_early : (d : Date) → d.month < 3 → is_summer d.year (day_start (epoch_day d) -ℤ pos 7_200) ≡ false
winter_early d h = winter_to d (le_from_lt _ _ (before_month d 3 h))

pub winter_late : (d : Date) → 10 < d.month → is_summer d.year (day_start (epoch_day d) -ℤ pos 7_200) ≡ false
winter_late d h = winter_from d (after_month d 10 (october d.year d.year_in) h)

-- the clock is ahead by one of two numbers
pub seconds_ahead-summer : (y second : ℤ) → is_summer y second ≡ true → seconds_ahead y second ≡ pos 7_200
unfolding seconds_ahead
seconds_ahead-summer y second e = rw e

pub seconds_ahead-winter : (y second : ℤ) → is_summer y second ≡ false → seconds_ahead y second ≡ pos 3_600
unfolding seconds_ahead
seconds_ahead-winter y second e = rw e

-- so midnight is at one of two seconds
pub midnight-summer : (d : Date) → is_summer d.year (day_start (epoch_day d) -ℤ pos 7_200) ≡ true → midnight_of d ≡ day_start (epoch_day d) -ℤ pos 7_200
unfolding midnight_of
midnight-summer d e = rw (seconds_ahead-summer _ _ e)

pub midnight-winter : (d : Date) → is_summer d.year (day_start (epoch_day d) -ℤ pos 7_200) ≡ false → midnight_of d ≡ day_start (epoch_day d) -ℤ pos 3_600
unfolding midnight_of
midnight-winter d e = rw (seconds_ahead-winter _ _ e)

-- the clock shows 00:00 at one second, where it is ahead by as much an hour before as two
only_second : (summer : ℤ → Bool) (ahead : ℤ → ℤ) (start s m : ℤ)
    → ((t : ℤ) → summer t ≡ true → ahead t ≡ pos 7_200) → ((t : ℤ) → summer t ≡ false → ahead t ≡ pos 3_600)
    → summer (start -ℤ pos 3_600) ≡ summer (start -ℤ pos 7_200) → m ≡ start -ℤ ahead (start -ℤ pos 7_200)
    → (s +ℤ ahead s ≡ start) ↔ (s ≡ m)
only_second summer ahead start s m warm cold same at = (only _ _ refl refl, shown _ refl)
  where
    only : (b c : Bool) → summer s ≡ b → summer (start -ℤ pos 7_200) ≡ c → s +ℤ ahead s ≡ start → s ≡ m
    only true true e f shows =
        let here = warm s e in let there = warm (start -ℤ pos 7_200) f in omega (arith, signed_arith)
    only false false e f shows =
        let here = cold s e in let there = cold (start -ℤ pos 7_200) f in omega (arith, signed_arith)
    only true false e f shows =
        let here = warm s e in
        let place : s ≡ start -ℤ pos 7_200 = omega (arith, signed_arith) in
        absurd (true≢false (sym e ∙ ap summer place ∙ f))
    only false true e f shows =
        let here = cold s e in
        let place : s ≡ start -ℤ pos 3_600 = omega (arith, signed_arith) in
        absurd (true≢false (sym f ∙ sym same ∙ sym (ap summer place) ∙ e))

    shown : (c : Bool) → summer (start -ℤ pos 7_200) ≡ c → s ≡ m → s +ℤ ahead s ≡ start
    shown true f e =
        let there = warm (start -ℤ pos 7_200) f in
        let place : s ≡ start -ℤ pos 7_200 = omega (arith, signed_arith) in
        let here = warm s (ap summer place ∙ f) in
        omega (arith, signed_arith)
    shown false f e =
        let there = cold (start -ℤ pos 7_200) f in
        let place : s ≡ start -ℤ pos 3_600 = omega (arith, signed_arith) in
        let here = cold s (ap summer place ∙ same ∙ f) in
        omega (arith, signed_arith)

-- so it shows 00:00 of a date at its midnight and at no other second
pub shows_midnight : (d : Date) (s m : ℤ) → m ≡ midnight_of d → ShowsMidnight d s ↔ (s ≡ m)
unfolding midnight_of
shows_midnight d s m e =
    only_second (is_summer d.year) (seconds_ahead d.year) (day_start (epoch_day d)) s m
    (seconds_ahead-summer d.year) (seconds_ahead-winter d.year)
    (is_summer-midnight d.year (epoch_day d) 3_600 (omega arith) ∙ sym (is_summer-midnight d.year (epoch_day d) 7_200 (omega arith))) e

-- a test on signed numbers that are not negative is the test on the numbers
pub le-nat_le : (a : ℤ) (n m : ℕ) → a ≡ pos n → int_le a (pos m) ≡ nat_le n m
le-nat_le a n m e = rw e
