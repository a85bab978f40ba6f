-- The last hour ends where the next date begins.
use Rattle.std.proofs.Common.{◌≡◌, ◌∙◌, to_z, of_z, w64, arith}
use Rattle.std.proofs.lemmas.Int.{ints}
use Rattle.contract_calendar.proofs.DayLemmas.{end_of_day}
use Rattle.contract_calendar.proofs.day.Day.new.Goals as goal

pub returns-clause-end : goal.returns-clause-end
returns-clause-end c =
    let midnight : to_z w64 (of_z w64 c.find_midnight.result) ≡ c.find_midnight.result = omega (arith, ints) in
    λ next tomorrow.
    end_of_day c.args.date next (to_z w64 (of_z w64 c.find_midnight.result)) c.count_hours.result
    (midnight ∙ c.find_midnight.ensures.value) c.count_hours.ensures.value tomorrow
