use Rattle.std.proofs.Common.{◌≡◌, ◌++◌}
use Rattle.std.specs.List.{flat_map, range_with_len}
use Rattle.ship_schedule.specs.Places.{quarter_at}
use Rattle.ship_schedule.specs.Rows.{balance_at, net}
use Rattle.ship_schedule.specs.ScheduleText.{zone_line}
use Rattle.ship_schedule.proofs.lines.write_zones.Given as goal

-- the lines of the zones so far
abbrev pub invariant-loop-zone : goal.invariant-loop-zone
invariant-loop-zone l = l.page ≡ l.fn.page
    ++ flat_map (λ zone. zone_line l.setup (quarter_at l.place) zone (balance_at l.sums.positions l.place zone).plus
    (balance_at l.sums.positions l.place zone).minus (net (balance_at l.sums.positions l.place zone)))
    (range_with_len 0 l.zone)
