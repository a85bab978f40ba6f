use Rattle.std.proofs.Common.{◌≡◌, replicate}
use Rattle.ship_schedule.specs.Rows.{nothing}
use Rattle.ship_schedule.proofs.rows.Row.new.Given as goal

-- the numbers so far have nothing
abbrev pub invariant-loop-number : goal.invariant-loop-number
invariant-loop-number l = l.balances.items ≡ replicate l.number nothing
