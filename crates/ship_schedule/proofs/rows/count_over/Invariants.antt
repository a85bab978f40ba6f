use Rattle.std.proofs.Common.{◌&&◌}
use Rattle.std.specs.Prelude.{nat_lt}
use Rattle.ship_schedule.specs.Places.{period_has, quarter_at}
use Rattle.ship_schedule.specs.Rows.{Counted, SameShape, is_number}
use Rattle.ship_schedule.proofs.rows.count_over.Given as goal

-- the lots are counted at the places so far
abbrev pub invariant-loop-place : goal.invariant-loop-place
invariant-loop-place l = record {
  counted : Counted l.fn.rows l.rows
      (λ place other its. period_has l.period (quarter_at place) && is_number l.number l.way other its && nat_lt place l.place) l.lots;
  shape : SameShape l.fn.rows l.rows;
}
