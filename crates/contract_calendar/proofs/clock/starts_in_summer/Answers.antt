-- Whether it is summer at a date's midnight, month by month.
use Rattle.std.proofs.Common.{arith, ◌∙◌, sym, ap, not}
use Rattle.std.proofs.lemmas.Int.{ints}
use Rattle.contract_calendar.proofs.ClockLemmas.{summer_march, summer_october, summer_between, winter_early, winter_late}
use Rattle.contract_calendar.proofs.clock.starts_in_summer.Goals as goal

pub returns-in-3 : goal.returns-in-3
returns-in-3 c = ap not c.has_sunday_left.ensures ∙ sym (summer_march c.args.date (omega (arith, ints)))

pub returns-in-10 : goal.returns-in-10
returns-in-10 c = c.has_sunday_left-in-10.ensures ∙ sym (summer_october c.args.date (omega (arith, ints)))

pub returns-in-4-to-9 : goal.returns-in-4-to-9
returns-in-4-to-9 c = sym (summer_between c.args.date (omega (arith, ints)) (omega (arith, ints)))

pub returns-in_default : goal.returns-in_default
returns-in_default c = sym (winter_early c.args.date (omega (arith, ints)))

pub returns-in_default-2 : goal.returns-in_default-2
returns-in_default-2 c = sym (winter_late c.args.date (omega (arith, ints)))
