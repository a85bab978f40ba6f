-- Where a day has 23, 24 or 25 hours, and that its last hour ends where the next day begins.
use Rattle.std.proofs.Common.{◌≡◌, ℕ, ◌+◌, ◌-◌, ◌*◌, ◌%◌, ◌<◌, ◌≤◌, inl, inr, Bool, true, false, ◌&&◌, ◌==◌, cond, nat_lt, ℤ, pos, ◌+ℤ◌, ◌-ℤ◌, ◌<ℤ◌, ◌≤ℤ◌, refl, sym, ap, ◌∙◌, arith, rules}
use Rattle.std.proofs.lemmas.Bool.{cases_order, eq-eqb, ne_eqb, eqb-true, lt-ltb, ltb-true, and_from, and_parts}
use Rattle.std.proofs.lemmas.Int.{by_lt_z}
use Rattle.jiff_core.specs.declared.civil.date.Date.{Date}
use Rattle.jiff_core.specs.Calendar.{day_count, days_in_month, days_in_year, weekday_number, IsCivilDate}
use Rattle.jiff_core.specs.Date.{epoch_day, weekday_of, month_length}
use Rattle.jiff_core.proofs.SignedLemmas.{signed_arith}
use Rattle.jiff_core.proofs.CalendarLemmas.{days_from_civil-day_count, day_count-lt_month, day_count-lt_year, day_count-later_year, day_count-last_of_year, day_count-day_of_year, day_of_year_bound, weekday_number_bound}
use Rattle.jiff_core.proofs.DateLemmas.{civil, days_from_civil-day, weekday_number-day}
use Rattle.contract_calendar.specs.Clock.{last_day, last_sunday, midnight_of}
use Rattle.contract_calendar.specs.Day.{is_last_sunday, hours_of_day}
use Rattle.contract_calendar.proofs.ClockLemmas.{before_month, after_month, march, october, last_sunday_bounds, summer_at, winter_to, winter_from, midnight-summer, midnight-winter}

-- a day of a month of 31 days is its last Sunday where it is a Sunday of the last seven days
sunday_number : (a b : ℤ) (day week last : ℕ) → 1 ≤ day → day ≤ 31 → week < 7 → a +ℤ pos 31 ≡ b +ℤ pos day → last ≡ (week + (31 - day)) % 7
    → a ≡ b -ℤ pos ((last + 1) % 7) → (week ≡ 6) × (31 < day + 7)
sunday_number a b day week last low high small place e here =
    let gap : 31 - day ≡ (last + 1) % 7 = omega (arith, signed_arith) in
    omega arith

number_of_sunday : (a b : ℤ) (day week last : ℕ) → 1 ≤ day → day ≤ 31 → a +ℤ pos 31 ≡ b +ℤ pos day → last ≡ (week + (31 - day)) % 7
    → week ≡ 6 → 31 < day + 7 → a ≡ b -ℤ pos ((last + 1) % 7)
number_of_sunday a b day week last low high place e sunday late =
    let gap : 31 - day ≡ (last + 1) % 7 = omega arith in
    omega (arith, signed_arith)

-- the same of a date
pub is_last_sunday-at : (d : Date) (m : ℕ) → d.month ≡ m → days_in_month d.year m ≡ 31 → epoch_day d ≡ last_sunday d.year m → is_last_sunday d ≡ true
unfolding last_sunday
is_last_sunday-at d m e long here =
    let length : month_length d ≡ 31 = ap (days_in_month d.year) e ∙ long in
    let day : d.day ≤ 31 = omega (arith, d.day_in) in
    let there : epoch_day d ≡ last_day d.year d.month -ℤ pos ((weekday_number (last_day d.year d.month) + 1) % 7) =
    here ∙ ap (λ n. last_day d.year n -ℤ pos ((weekday_number (last_day d.year n) + 1) % 7)) (sym e) in
    let is = sunday_number (epoch_day d) (last_day d.year d.month) d.day (weekday_of d) (weekday_number (last_day d.year d.month)) d.day_in.0 day (weekday_number_bound (epoch_day d))
    (days_from_civil-day d.year d.month d.day 31 d.day_in.0 (omega arith)) (weekday_number-day d.year d.month d.day 31 d.day_in.0 day) there in
    and_from _ _ (eq-eqb (weekday_of d) 6 is.0) (lt-ltb (month_length d) (d.day + 7) (omega (arith, is.1)))

pub at-is_last_sunday : (d : Date) (m : ℕ) → d.month ≡ m → days_in_month d.year m ≡ 31 → is_last_sunday d ≡ true → epoch_day d ≡ last_sunday d.year m
unfolding last_sunday
at-is_last_sunday d m e long is =
    let length : month_length d ≡ 31 = ap (days_in_month d.year) e ∙ long in
    let day : d.day ≤ 31 = omega (arith, d.day_in) in
    let parts = and_parts (weekday_of d == 6) (nat_lt (month_length d) (d.day + 7)) is in
    let sunday : weekday_of d ≡ 6 = eqb-true (weekday_of d) 6 parts.0 in
    let late : month_length d < d.day + 7 = ltb-true (month_length d) (d.day + 7) parts.1 in
    let there = number_of_sunday (epoch_day d) (last_day d.year d.month) d.day (weekday_of d) (weekday_number (last_day d.year d.month)) d.day_in.0 day
    (days_from_civil-day d.year d.month d.day 31 d.day_in.0 (omega arith)) (weekday_number-day d.year d.month d.day 31 d.day_in.0 day) sunday (omega arith) in
    rw (← e) there

-- the last Sunday of a month of 31 days lies in that month
month_is : (d : Date) (m : ℕ) → IsCivilDate d.year m 31 → epoch_day d ≡ last_sunday d.year m → d.month ≡ m
month_is d m long here =
    elim (cases_order d.month m) [
      | inl same ↦ same
      | inr (inl lt) ↦ absurd (omega (arith, signed_arith, before_month d m lt))
      | inr (inr gt) ↦ absurd (omega (arith, signed_arith, after_month d m long gt))
    ]

-- the hours by the tests
by_tests-march : (s m o : Bool) (a b c : ℕ) → s ≡ true → m ≡ true → cond (s && m) a (cond (s && o) b c) ≡ a
by_tests-march s m o a b c e f = rw (e, f)

by_tests-october : (s m o : Bool) (a b c : ℕ) → s ≡ true → m ≡ false → o ≡ true → cond (s && m) a (cond (s && o) b c) ≡ b
by_tests-october s m o a b c e f g = rw (e, f, g)

by_tests-other : (s m o : Bool) (a b c : ℕ) → (s ≡ true → m ≡ false) → (s ≡ true → o ≡ false) → cond (s && m) a (cond (s && o) b c) ≡ c
by_tests-other false m o a b c f g = refl
by_tests-other true m o a b c f g = rw (f refl, g refl)

hours-23 : (d : Date) → is_last_sunday d ≡ true → (d.month == 3) ≡ true → hours_of_day d ≡ 23
unfolding hours_of_day
hours-23 d e f = by_tests-march (is_last_sunday d) (d.month == 3) (d.month == 10) 23 25 24 e f

hours-25 : (d : Date) → is_last_sunday d ≡ true → (d.month == 3) ≡ false → (d.month == 10) ≡ true → hours_of_day d ≡ 25
unfolding hours_of_day
hours-25 d e f g = by_tests-october (is_last_sunday d) (d.month == 3) (d.month == 10) 23 25 24 e f g

hours-24 : (d : Date) → (is_last_sunday d ≡ true → (d.month == 3) ≡ false) → (is_last_sunday d ≡ true → (d.month == 10) ≡ false) → hours_of_day d ≡ 24
unfolding hours_of_day
hours-24 d f g = by_tests-other (is_last_sunday d) (d.month == 3) (d.month == 10) 23 25 24 f g

-- the hours by the day's number
pub hours-march : (d : Date) → epoch_day d ≡ last_sunday d.year 3 → hours_of_day d ≡ 23
hours-march d here =
    let month = month_is d 3 (march d.year d.year_in) here in
    hours-23 d (is_last_sunday-at d 3 month refl here) (eq-eqb d.month 3 month)

pub hours-october : (d : Date) → epoch_day d ≡ last_sunday d.year 10 → hours_of_day d ≡ 25
hours-october d here =
    let month = month_is d 10 (october d.year d.year_in) here in
    hours-25 d (is_last_sunday-at d 10 month refl here) (ne_eqb d.month 3 (omega arith)) (eq-eqb d.month 10 month)

other_month : (d : Date) (m : ℕ) → days_in_month d.year m ≡ 31 → ¬ (epoch_day d ≡ last_sunday d.year m) → is_last_sunday d ≡ true → (d.month == m) ≡ false
other_month d m long apart is =
    elim (cases_order d.month m) [
      | inl same ↦ absurd (apart (at-is_last_sunday d m same long is))
      | inr (inl lt) ↦ ne_eqb d.month m (omega arith)
      | inr (inr gt) ↦ ne_eqb d.month m (omega arith)
    ]

pub hours-other : (d : Date) → ¬ (epoch_day d ≡ last_sunday d.year 3) → ¬ (epoch_day d ≡ last_sunday d.year 10) → hours_of_day d ≡ 24
hours-other d spring autumn = hours-24 d (other_month d 3 refl spring) (other_month d 10 refl autumn)

-- the clock changes in March before it does in October
pub march_before_october : (d : Date) → last_sunday d.year 3 <ℤ last_sunday d.year 10
march_before_october d =
    omega (arith, signed_arith, days_from_civil-day_count, day_count-lt_month d.year 3 31 10 25 (march d.year d.year_in) (omega arith) (omega arith), days_from_civil-day d.year 10 25 31 (omega arith) (omega arith), last_sunday_bounds d.year 3, last_sunday_bounds d.year 10)

-- the next midnight in the same year
same_year : (d next : Date) → next.year ≡ d.year → epoch_day next ≡ epoch_day d +ℤ pos 1 → midnight_of next ≡ midnight_of d +ℤ pos (hours_of_day d * 3_600)
same_year d next e tomorrow =
    let order = march_before_october d in
    let spring : last_sunday next.year 3 ≡ last_sunday d.year 3 = ap (λ y. last_sunday y 3) e in
    let autumn : last_sunday next.year 10 ≡ last_sunday d.year 10 = ap (λ y. last_sunday y 10) e in
    by_lt_z (epoch_day d) (last_sunday d.year 3)
    (λ before.
    let a = midnight-winter d (winter_to d (omega (arith, signed_arith))) in
    let b = midnight-winter next (winter_to next (omega (arith, signed_arith))) in
    let h = hours-other d (λ e. omega (arith, signed_arith)) (λ e. omega (arith, signed_arith)) in
    rw h (omega (arith, signed_arith)))
    (λ from. by_lt_z (last_sunday d.year 3) (epoch_day d)
    (λ after. by_lt_z (epoch_day d) (last_sunday d.year 10)
    (λ before.
    let a = midnight-summer d (summer_at d (omega (arith, signed_arith)) (omega (arith, signed_arith))) in
    let b = midnight-summer next (summer_at next (omega (arith, signed_arith)) (omega (arith, signed_arith))) in
    let h = hours-other d (λ e. omega (arith, signed_arith)) (λ e. omega (arith, signed_arith)) in
    rw h (omega (arith, signed_arith)))
    (λ since. by_lt_z (last_sunday d.year 10) (epoch_day d)
    (λ late.
    let a = midnight-winter d (winter_from d late) in
    let b = midnight-winter next (winter_from next (omega (arith, signed_arith))) in
    let h = hours-other d (λ e. omega (arith, signed_arith)) (λ e. omega (arith, signed_arith)) in
    rw h (omega (arith, signed_arith)))
    (λ to.
    let a = midnight-summer d (summer_at d (omega (arith, signed_arith)) (omega (arith, signed_arith))) in
    let b = midnight-winter next (winter_from next (omega (arith, signed_arith))) in
    let h = hours-october d (omega (arith, signed_arith)) in
    rw h (omega (arith, signed_arith)))))
    (λ to.
    let a = midnight-winter d (winter_to d (omega (arith, signed_arith))) in
    let b = midnight-summer next (summer_at next (omega (arith, signed_arith)) (omega (arith, signed_arith))) in
    let h = hours-march d (omega (arith, signed_arith)) in
    rw h (omega (arith, signed_arith))))

-- and the first one of a new year
new_year : (d next : Date) → d.year <ℤ next.year → epoch_day next ≡ epoch_day d +ℤ pos 1 → midnight_of next ≡ midnight_of d +ℤ pos (hours_of_day d * 3_600)
new_year d next later tomorrow =
    let first : day_count d.year 1 1 + days_in_year d.year ≤ day_count next.year 1 1 =
    day_count-later_year d.year next.year (omega (arith, signed_arith, d.year_in)) later in
    let last = day_count-last_of_year d.year in
    let of_next = day_count-day_of_year next.year next.month next.day next.day_in.0 in
    let of_day = day_count-day_of_year d.year d.month d.day d.day_in.0 in
    let bound = day_of_year_bound d.year d.month d.day (civil d) in
    let october_passed = day_count-lt_month d.year 10 31 12 31 (october d.year d.year_in) (omega arith) (omega arith) in
    let march_to_come = day_count-lt_month next.year 1 1 3 25 (next.year_in, search rules, search rules) (omega arith) (omega arith) in
    let order = march_before_october d in
    let late : last_sunday d.year 10 <ℤ epoch_day d =
    omega (arith, signed_arith, days_from_civil-day_count, last_sunday_bounds d.year 10) in
    let early : epoch_day next ≤ℤ last_sunday next.year 3 =
    omega (arith, signed_arith, days_from_civil-day_count, days_from_civil-day next.year 3 25 31 (omega arith) (omega arith), last_sunday_bounds next.year 3) in
    let a = midnight-winter d (winter_from d late) in
    let b = midnight-winter next (winter_to next early) in
    let h = hours-other d (λ e. omega (arith, signed_arith)) (λ e. omega (arith, signed_arith)) in
    rw h (omega (arith, signed_arith))

-- the last hour of a day ends at the midnight of the next
pub end_of_day : (d next : Date) (midnight : ℤ) (hours : ℕ) → midnight ≡ midnight_of d → hours ≡ hours_of_day d → epoch_day next ≡ epoch_day d +ℤ pos 1
    → midnight_of next ≡ midnight +ℤ pos ((hours + 1 - 1) * 3_600)
end_of_day d next midnight hours e h tomorrow =
    let length : (hours + 1 - 1) * 3_600 ≡ hours_of_day d * 3_600 = omega arith in
    rw (length, e) (by_lt_z d.year next.year (λ later. new_year d next later tomorrow)
    (λ from. by_lt_z next.year d.year
    (λ earlier. absurd (omega (arith, signed_arith, days_from_civil-day_count, day_count-lt_year next.year next.month next.day d.year d.month d.day (civil next) d.day_in.0 earlier)))
    (λ to. same_year d next (omega (arith, signed_arith)) tomorrow)))
