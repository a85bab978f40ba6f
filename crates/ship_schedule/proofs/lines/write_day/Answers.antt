use Rattle.ship_schedule.specs.ScheduleText.{numbers_in, quarter_lines}
use Rattle.ship_schedule.proofs.LineTexts.{text_more}
use Rattle.ship_schedule.proofs.lines.write_day.Goals as goal

pub loop-place-preserved : goal.loop-place-preserved
loop-place-preserved c =
    text_more (quarter_lines c.args.setup.now (numbers_in c.args.sums.now)) c.loop-place.place _ _ _ c.loop-place.invariant c.in_ok-write_quarter.ensures
