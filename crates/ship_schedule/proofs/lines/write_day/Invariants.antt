use Rattle.std.proofs.Common.{◌≡◌, ◌++◌}
use Rattle.std.specs.List.{flat_map, range_with_len}
use Rattle.ship_schedule.specs.ScheduleText.{numbers_in, quarter_lines}
use Rattle.ship_schedule.proofs.lines.write_day.Given as goal

-- the lines of the quarters so far
abbrev pub invariant-loop-place : goal.invariant-loop-place
invariant-loop-place l = l.page ≡ l.fn.page ++ flat_map (quarter_lines l.setup (numbers_in l.sums)) (range_with_len 0 l.place)
