use Rattle.std.proofs.Common.{◌∙◌, ◌++◌, ap}
use Rattle.ship_schedule.specs.Places.{quarter_at}
use Rattle.ship_schedule.specs.Rows.{balance_at, net}
use Rattle.ship_schedule.specs.ScheduleText.{zone_line}
use Rattle.ship_schedule.proofs.LineTexts.{text_more}
use Rattle.ship_schedule.proofs.lines.write_zones.Goals as goal

pub loop-zone-preserved : goal.loop-zone-preserved
loop-zone-preserved c =
    let setup = c.args.setup.now in
    let zone = c.loop-zone.zone in
    text_more
    (λ number. zone_line setup (quarter_at c.args.place) number (balance_at c.args.sums.now.positions c.args.place number).plus
    (balance_at c.args.sums.now.positions c.args.place number).minus (net (balance_at c.args.sums.now.positions c.args.place number)))
    zone _ _ _ c.loop-zone.invariant
    (c.in_ok-write_zone.ensures
    ∙ ap (λ quarter. c.loop-zone.page ++ zone_line setup quarter zone c.balance.result.plus c.balance.result.minus (net c.balance.result)) c.quarter_at-quarter.ensures
    ∙ ap (λ balance. c.loop-zone.page ++ zone_line setup (quarter_at c.args.place) zone balance.plus balance.minus (net balance)) c.balance.ensures)
