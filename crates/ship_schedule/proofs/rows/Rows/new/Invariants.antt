use Rattle.std.proofs.Common.{◌≡◌, replicate}
use Rattle.ship_schedule.specs.Rows.{nothing}
use Rattle.ship_schedule.proofs.rows.Rows.new.Given as goal

-- the rows so far are of numbers that have nothing
abbrev pub invariant-loop-place : goal.invariant-loop-place
invariant-loop-place l = l.rows.items ≡ replicate l.place (replicate l.width nothing)
