use Rattle.std.proofs.Common.{◌≡◌, ◌++◌}
use Rattle.std.specs.List.{flat_map, range_with_len}
use Rattle.ship_schedule.specs.Places.{quarter_at}
use Rattle.ship_schedule.specs.Rows.{balance_at, net}
use Rattle.ship_schedule.specs.ScheduleText.{border_line}
use Rattle.ship_schedule.proofs.lines.write_borders.Given as goal

-- the lines of the borders so far
abbrev pub invariant-loop-border : goal.invariant-loop-border
invariant-loop-border l = l.page ≡ l.fn.page
    ++ flat_map (λ border. border_line l.setup (quarter_at l.place) border (net (balance_at l.sums.traded l.place border)) (net (balance_at l.sums.granted l.place border)))
    (range_with_len 0 l.border)
