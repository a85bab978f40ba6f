-- What the code subtracts is the second of midnight in nanoseconds.
use Rattle.std.proofs.Common.{◌≡◌, sym, ap, arith}
use Rattle.std.proofs.lemmas.Int.{ints}
use Rattle.contract_calendar.specs.Day.{DeliveryDay}
use Rattle.contract_calendar.proofs.QuarterLemmas.{in_day, after_day}
use Rattle.contract_calendar.proofs.day.Day.since_midnight.Goals as goal

pub returns-then-since-self-clause-inside : goal.returns-then-since-self-clause-inside
returns-then-since-self-clause-inside c =
    let midnight : c.self.inside.midnight ≡ c.args.self.now.midnight = ap (λ (day : DeliveryDay). day.midnight) c.self.view_is in
    let hours : c.self.inside.hours ≡ c.args.self.now.hours = ap (λ (day : DeliveryDay). day.hours) c.self.view_is in
    sym (after_day c.args.self.now c.args.instant.nanosecond (omega (arith, ints)))

pub returns-clause-inside : goal.returns-clause-inside
returns-clause-inside c =
    let midnight : c.self.inside.midnight ≡ c.args.self.now.midnight = ap (λ (day : DeliveryDay). day.midnight) c.self.view_is in
    let hours : c.self.inside.hours ≡ c.args.self.now.hours = ap (λ (day : DeliveryDay). day.hours) c.self.view_is in
    sym (in_day c.args.self.now c.args.instant.nanosecond (omega (arith, ints)) (omega (arith, ints)))

pub returns-clause-value : goal.returns-clause-value
returns-clause-value c =
    let midnight : c.self.inside.midnight ≡ c.args.self.now.midnight = ap (λ (day : DeliveryDay). day.midnight) c.self.view_is in
    omega (arith, ints)

pub returns-clause-bound : goal.returns-clause-bound
returns-clause-bound c =
    let hours : c.self.inside.hours ≡ c.args.self.now.hours = ap (λ (day : DeliveryDay). day.hours) c.self.view_is in
    omega (arith, ints)
