use Rattle.std.proofs.Common.{◌∙◌, ◌++◌, ap}
use Rattle.ship_schedule.specs.Places.{quarter_at}
use Rattle.ship_schedule.specs.Rows.{balance_at, net}
use Rattle.ship_schedule.specs.ScheduleText.{border_line}
use Rattle.ship_schedule.proofs.LineTexts.{text_more}
use Rattle.ship_schedule.proofs.lines.write_borders.Goals as goal

pub loop-border-preserved : goal.loop-border-preserved
loop-border-preserved c =
    let setup = c.args.setup.now in
    let border = c.loop-border.border in
    text_more
    (λ number. border_line setup (quarter_at c.args.place) number (net (balance_at c.args.sums.now.traded c.args.place number)) (net (balance_at c.args.sums.now.granted c.args.place number)))
    border _ _ _ c.loop-border.invariant
    (c.in_ok-write_border.ensures
    ∙ ap (λ quarter. c.loop-border.page ++ border_line setup quarter border (net c.balance-traded.result) (net c.balance-granted.result)) c.quarter_at-quarter.ensures
    ∙ ap (λ balance. c.loop-border.page ++ border_line setup (quarter_at c.args.place) border (net balance) (net c.balance-granted.result)) c.balance-traded.ensures
    ∙ ap (λ balance. c.loop-border.page ++ border_line setup (quarter_at c.args.place) border (net (balance_at c.args.sums.now.traded c.args.place border)) (net balance)) c.balance-granted.ensures)
