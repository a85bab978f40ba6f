-- The seconds that the code computes are those of the instant, which is one that there is.
use Rattle.std.proofs.Common.{◌≡◌, ℤ, pos, ◌+ℤ◌, ◌*ℤ◌, ap, ◌∙◌, arith, to_z, of_z, w32, w64}
use Rattle.std.proofs.lemmas.Int.{ints}
use Rattle.jiff_core.specs.Date.{epoch_day}
use Rattle.market_spelling.specs.Dates.{instant_at}
use Rattle.market_spelling.proofs.DateLemmas.{usual_day, usual_second, usual_instant}
use Rattle.market_spelling.proofs.dates.at_second_of.Goals as goal

pub returns-in-Ok : goal.returns-in-Ok
unfolding instant_at
returns-in-Ok c =
    let day : c.to_unix_epoch_day-day.result ≡ epoch_day c.args.date = c.to_unix_epoch_day-day.ensures.value ∙ ap epoch_day c.to_plain.ensures in
    let seconds : to_z w64 (of_z w64 (to_z w64 (of_z w64 (to_z w64 (of_z w64 (to_z w32 (of_z w32 c.to_unix_epoch_day-day.result))) *ℤ pos 86400)) +ℤ to_z w64 c.args.seconds)) ≡ epoch_day c.args.date *ℤ pos 86400 +ℤ pos c.args.seconds = omega (arith, ints) in
    c.in-Ok.ensures.value ∙ ap (λ (z : ℤ). z *ℤ pos 1000000000) seconds

pub returns-in-Err : goal.returns-in-Err
returns-in-Err c =
    let day : c.to_unix_epoch_day-day.result ≡ epoch_day c.args.date = c.to_unix_epoch_day-day.ensures.value ∙ ap epoch_day c.to_plain.ensures in
    let usual = usual_day c.args.date c.requires.years in
    let seconds : to_z w64 (of_z w64 (to_z w64 (of_z w64 (to_z w64 (of_z w64 (to_z w32 (of_z w32 c.to_unix_epoch_day-day.result))) *ℤ pos 86400)) +ℤ to_z w64 c.args.seconds)) ≡ epoch_day c.args.date *ℤ pos 86400 +ℤ pos c.args.seconds = omega (arith, ints) in
    let within = usual_instant (epoch_day c.args.date *ℤ pos 86400 +ℤ pos c.args.seconds) (usual_second (epoch_day c.args.date) c.args.seconds usual c.requires.time) in
    let never = c.in-Err.ensures.succeeds.1 (rw seconds within) in
    cc
