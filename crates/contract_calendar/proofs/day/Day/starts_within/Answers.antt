-- The second that the code computes is that of the hour's start, less the seconds before it.
use Rattle.std.proofs.Common.{◌≡◌, ◌∙◌, sym, ap, arith, pos, ◌-ℤ◌, ◌*ℤ◌}
use Rattle.std.proofs.lemmas.Int.{ints}
use Rattle.contract_calendar.specs.Day.{DeliveryDay, hour_start}
use Rattle.contract_calendar.proofs.QuarterLemmas.{test_is}
use Rattle.contract_calendar.proofs.day.Day.starts_within.Goals as goal

pub returns : goal.returns
returns c =
    let midnight : c.self.inside.midnight ≡ c.args.self.now.midnight = ap (λ (day : DeliveryDay). day.midnight) c.self.view_is in
    test_is c.has_come.result ((hour_start c.args.self.now c.args.hour -ℤ pos c.args.seconds) *ℤ pos 1_000_000_000) c.args.instant.nanosecond
    (λ e. let come = sym e ∙ c.has_come.ensures in omega (arith, ints))
    (λ e. let come = sym e ∙ c.has_come.ensures in omega (arith, ints))
