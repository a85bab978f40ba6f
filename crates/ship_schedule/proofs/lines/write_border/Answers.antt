use Rattle.std.proofs.Common.{◌∙◌, ◌&&◌, ◌++◌, ◌∷◌, [], List, ℕ, sym, ap}
use Rattle.std.specs.Prelude.{codes}
use Rattle.order_kinds.specs.Contract.{quarter_text}
use Rattle.journal_print.specs.Line.{border_ends, zone_name}
use Rattle.ship_schedule.specs.Rows.{net, signed_text}
use Rattle.ship_schedule.specs.ScheduleText.{is_none, line}
use Rattle.ship_schedule.proofs.LineTexts.{border_put, shown}
use Rattle.ship_schedule.proofs.lines.write_border.Goals as goal

pub returns : goal.returns
returns c =
    let quarter = quarter_text c.args.quarter in
    let traded = signed_text (net c.args.traded) in
    let granted = signed_text (net c.args.granted) in
    let words = λ (from to : List ℕ). c.args.page.now ++ line (codes "exchange" ∷ quarter ∷ (from ++ (codes ">" ++ to)) ∷ traded ∷ granted ∷ []) in
    shown (is_none (net c.args.traded) && is_none (net c.args.granted)) c.args.page.now _ _ (sym c.is_idle.ensures ∙ c.if-is_idle.false)
    (border_put quarter c.name_of.result.now c.name_of-2.result.now traded granted
    c.args.page.now _ _ _ _ _ c.in_ok-start_line.ensures c.in_ok-push.ensures c.in_ok-push-2.ensures c.in_ok-push-3.ensures c.in_ok-end_border.ensures
    ∙ ap (λ from. words from c.name_of-2.result.now) (c.name_of.ensures ∙ ap (λ ends. zone_name c.args.setup.now ends.0) c.ends_of-from.ensures)
    ∙ ap (λ to. words (zone_name c.args.setup.now (border_ends c.args.setup.now c.args.border).0) to)
    (c.name_of-2.ensures ∙ ap (λ ends. zone_name c.args.setup.now ends.1) c.ends_of-from.ensures))
