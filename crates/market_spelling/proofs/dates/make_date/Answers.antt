-- The numbers fit the types that the library takes, and are those of the date that it gives.
use Rattle.std.proofs.Common.{◌≡◌, sym, arith, pos, to_z, w8, w16}
use Rattle.std.proofs.lemmas.Int.{ints}
use Rattle.jiff_core.specs.declared.civil.date.Date.{Date}
use Rattle.market_spelling.proofs.DateLemmas.{date_found, no_date}
use Rattle.market_spelling.proofs.dates.make_date.Goals as goal

pub returns-in-Ok-clause-value : goal.returns-in-Ok-clause-value
returns-in-Ok-clause-value c =
    let date : Date = c.in-Ok.date in
    let is = c.in-Ok.ensures.value in
    let year : date.year ≡ pos c.args.year = omega (arith, ints) in
    let month : date.month ≡ c.args.month = omega (arith, ints) in
    let day : date.day ≡ c.args.day = omega (arith, ints) in
    sym (date_found date c.args.year c.args.month c.args.day year month day (omega arith))

pub returns-in-Ok-clause-years : goal.returns-in-Ok-clause-years
returns-in-Ok-clause-years c =
    let is = c.in-Ok.ensures.value in
    omega (arith, ints)

pub returns-in-Err-clause-value : goal.returns-in-Err-clause-value
returns-in-Err-clause-value c =
    let year : to_z w16 c.args.year ≡ pos c.args.year = omega (arith, ints) in
    let month : to_z w8 c.args.month ≡ pos c.args.month = omega (arith, ints) in
    let day : to_z w8 c.args.day ≡ pos c.args.day = omega (arith, ints) in
    sym (no_date c.args.year c.args.month c.args.day (λ is. absurd (cc (c.in-Err.ensures.succeeds.1 (rw (year, month, day) is)))))
