use Rattle.std.proofs.Common.{◌∙◌, ◌==◌, ◌&&◌, ◌++◌, ◌∷◌, [], sym, ap}
use Rattle.std.specs.Prelude.{codes}
use Rattle.order_kinds.specs.Contract.{quarter_text}
use Rattle.ship_schedule.specs.Rows.{net, signed_text}
use Rattle.ship_schedule.specs.ScheduleText.{amount_text, line}
use Rattle.ship_schedule.proofs.LineTexts.{shown, zone_put}
use Rattle.ship_schedule.proofs.lines.write_zone.Goals as goal

pub returns : goal.returns
returns c =
    shown ((c.args.position.plus == 0) && (c.args.position.minus == 0)) c.args.page.now _ _ (sym c.is_nothing.ensures ∙ c.if-is_nothing.false)
    (zone_put (quarter_text c.args.quarter) c.name_of.result.now (amount_text c.args.position.plus) (amount_text c.args.position.minus) (signed_text (net c.args.position))
    c.args.page.now _ _ _ c.in_ok-start_line.ensures c.in_ok-push.ensures c.in_ok-end_zone.ensures
    ∙ ap (λ name. c.args.page.now ++ line (codes "position" ∷ quarter_text c.args.quarter ∷ name ∷ amount_text c.args.position.plus
    ∷ amount_text c.args.position.minus ∷ signed_text (net c.args.position) ∷ [])) c.name_of.ensures)
