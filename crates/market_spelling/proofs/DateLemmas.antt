-- Which numbers are a date.
use Rattle.std.proofs.Common.{◌≡◌, ℕ, ◌≤◌, Bool, true, false, Option, Some, None, ℤ, pos, neg_ℤ, ◌<ℤ◌, ◌+ℤ◌, ◌*ℤ◌, ◌<◌, nat_le, refl, ap, sym, arith}
use Rattle.std.proofs.Props.{props}
use Rattle.std.proofs.lemmas.Int.{ints}
use Rattle.std.proofs.lemmas.Bool.Decides.{nat_tests}
use Rattle.std.specs.Int.{IsInRange}
use mathlib.Core.HLevel.{is_prop→PathP}
use Rattle.jiff_core.specs.declared.civil.date.Date.{Date}
use Rattle.jiff_core.specs.Calendar.{IsBetween, IsYear, IsCivilDate, IsDate, days_in_month}
use Rattle.jiff_core.specs.Date.{epoch_day}
use Rattle.jiff_core.specs.Timestamp.{IsTimestampNanos}
use Rattle.jiff_core.proofs.SignedLemmas.{signed_arith}
use Rattle.jiff_core.proofs.CalendarLemmas.{days_from_civil-day_count, day_count-lt_year, day_count-last_of_year, day_count-year_bounds}
use Rattle.market_spelling.specs.Dates.{where_true, date_of_parts}

-- a test that holds
holds : {A : Type 0} (test : Bool) (value : test ≡ true → Option A) (given : Option A) → test ≡ true
    → ((is : test ≡ true) → value is ≡ given) → where_true test value ≡ given
holds true value given is same = same refl
holds false value given is same = cc

-- a test under which there is nothing
nothing : {A : Type 0} (test : Bool) (value : test ≡ true → Option A)
    → ((is : test ≡ true) → value is ≡ None) → where_true test value ≡ None
nothing true value none = none refl
nothing false value none = refl

-- dates of the same numbers are the same
pub same_date : (a b : Date) → a.year ≡ b.year → a.month ≡ b.month → a.day ≡ b.day → a ≡ b
same_date a b year month day =
    λ i. record {
      year = year i;
      month = month i;
      day = day i;
      year_in = is_prop→PathP (λ j. IsYear (year j)) (λ j. hlevel props) a.year_in b.year_in i;
      month_in = is_prop→PathP (λ j. IsInRange 1 12 (month j)) (λ j. hlevel props) a.month_in b.month_in i;
      day_in = is_prop→PathP (λ j. IsInRange 1 (days_in_month (year j) (month j)) (day j)) (λ j. hlevel props) a.day_in b.day_in i;
    }

-- the numbers of a date give it back
pub date_found : (date : Date) (year month day : ℕ) → date.year ≡ pos year → date.month ≡ month → date.day ≡ day
    → year ≤ 9999 → date_of_parts (year, month, day) ≡ Some date
unfolding date_of_parts
date_found date year month day is_year is_month is_day few =
    let months : (1 ≤ month) × (month ≤ 12) = (omega (arith, date.month_in), omega (arith, date.month_in)) in
    let last : days_in_month date.year date.month ≡ days_in_month (pos year) month = cc in
    let days : (1 ≤ day) × (day ≤ days_in_month (pos year) month) = (omega (arith, date.day_in), omega (arith, date.day_in)) in
    let some_months : nat_le 1 month ≡ true = grind (arith, nat_tests) in
    let few_months : nat_le month 12 ≡ true = grind (arith, nat_tests) in
    let some_days : nat_le 1 day ≡ true = grind (arith, nat_tests) in
    let few_days : nat_le day (days_in_month (pos year) month) ≡ true = grind (arith, nat_tests) in
    let few_years : nat_le year 9999 ≡ true = grind (arith, nat_tests) in
    holds (nat_le year 9999) _ (Some date) few_years (λ y.
    holds (nat_le 1 month) _ (Some date) some_months (λ m.
    holds (nat_le month 12) _ (Some date) few_months (λ n.
    holds (nat_le 1 day) _ (Some date) some_days (λ d.
    holds (nat_le day (days_in_month (pos year) month)) _ (Some date) few_days (λ e.
    ap Some (same_date _ date (sym is_year) (sym is_month) (sym is_day)))))))

-- numbers of no date
pub no_date : (year month day : ℕ) → (IsDate (pos year) (pos month) (pos day) → ⊥) → date_of_parts (year, month, day) ≡ None
unfolding date_of_parts
no_date year month day not =
    nothing _ _ (λ few_years.
    nothing _ _ (λ some_month.
    nothing _ _ (λ few_months.
    nothing _ _ (λ some_day.
    nothing _ _ (λ few_days.
    absurd (not (is_date year month day few_years some_month few_months some_day few_days)))))))
  where
    is_date : (year month day : ℕ) → nat_le year 9999 ≡ true → nat_le 1 month ≡ true → nat_le month 12 ≡ true
        → nat_le 1 day ≡ true → nat_le day (days_in_month (pos year) month) ≡ true → IsDate (pos year) (pos month) (pos day)
    is_date year month day few_years some_month few_months some_day few_days =
        let fy : year ≤ 9999 = grind (arith, nat_tests) in
        let sm : 1 ≤ month = grind (arith, nat_tests) in
        let fm : month ≤ 12 = grind (arith, nat_tests) in
        let sd : 1 ≤ day = grind (arith, nat_tests) in
        let fd : day ≤ days_in_month (pos year) month = grind (arith, nat_tests) in
        ((omega (arith, ints), omega (arith, ints)), (omega (arith, ints), omega (arith, ints)), (omega (arith, ints), omega (arith, ints)))

-- a day of the years 2000 to 2099 is well after the first day that there is, and well before the
-- last
pub usual_day : (date : Date) → IsBetween (pos 2000) (pos 2099) date.year
    → IsBetween (neg_ℤ (pos 4_371_300)) (pos 2_932_600) (epoch_day date)
usual_day date usual =
    let civil : IsCivilDate date.year date.month date.day = (date.year_in, date.month_in, date.day_in) in
    let before : date.year <ℤ pos 9999 = omega (arith, signed_arith) in
    let after : neg_ℤ (pos 9999) <ℤ date.year = omega (arith, signed_arith) in
    let last : IsYear (pos 9999) = (omega (arith, signed_arith), omega (arith, signed_arith)) in
    let first : IsYear (neg_ℤ (pos 9999)) = (omega (arith, signed_arith), omega (arith, signed_arith)) in
    let end : IsCivilDate (neg_ℤ (pos 9999)) 12 31 = (first, (omega arith, omega arith), (omega arith, omega arith)) in
    let day = days_from_civil-day_count date.year date.month date.day in
    let later = day_count-lt_year date.year date.month date.day (pos 9999) 1 1 civil (omega arith) before in
    let earlier = day_count-lt_year (neg_ℤ (pos 9999)) 12 31 date.year date.month date.day end (omega (arith, date.day_in)) after in
    let high = day_count-year_bounds (pos 9999) last in
    let low = day_count-year_bounds (neg_ℤ (pos 9999)) first in
    let year = day_count-last_of_year (neg_ℤ (pos 9999)) in
    (omega (arith, signed_arith), omega (arith, signed_arith))

-- a second of such a day is one of an instant
pub usual_second : (day : ℤ) (seconds : ℕ) → IsBetween (neg_ℤ (pos 4_371_300)) (pos 2_932_600) day → seconds < 86_400
    → IsBetween (neg_ℤ (pos 377_680_400_000)) (pos 253_376_800_000) (day *ℤ pos 86_400 +ℤ pos seconds)
usual_second day seconds usual few = (omega (arith, signed_arith), omega (arith, signed_arith))

pub usual_instant : (second : ℤ) → IsBetween (neg_ℤ (pos 377_680_400_000)) (pos 253_376_800_000) second
    → IsTimestampNanos (second *ℤ pos 1_000_000_000)
usual_instant second usual = (omega (arith, signed_arith), omega (arith, signed_arith))
