use Rattle.std.proofs.Common.{◌≡◌, ◌∙◌, ap, sym, subst}
use Rattle.market_model.specs.Market.{reply_to}
use Rattle.desk_changes.specs.State.{HourState}
use Rattle.desk_views.specs.Desk.{forgotten}
use Rattle.hour_desk.specs.Desk.{DeskState}
use Rattle.hour_desk.proofs.Certified.{unfilled}
use Rattle.hour_desk.proofs.Desks.{undone-stands}
use Rattle.hour_desk.proofs.Views.{forgotten-again}
use Rattle.hour_desk.proofs.desk.HourDesk.plan.Goals as goal

pub reply_and_refresh-requires-clause-none_next : goal.reply_and_refresh-requires-clause-none_next
reply_and_refresh-requires-clause-none_next c = subst (λ v. forgotten v ≡ v) (sym c.drop_plan.ensures.views) (forgotten-again c.self.inside.views)

pub returns-in-Ok-clause-certified : goal.returns-in-Ok-clause-certified
returns-in-Ok-clause-certified c = λ zones bound refused.
    let settled : c.drop_plan.new.hour.settled ≡ c.args.self.now.settled =
    ap (λ (h : HourState). h.settled) c.drop_plan.ensures.hour ∙ ap (λ (d : DeskState). d.settled) c.self.view_is in
    unfilled c.args.setup.now c.args.self.now.hour c.args.self.now.grid c.args.self.now.settled c.args.caller c.args.command.now zones bound
    c.requires.setup (undone-stands c.self.inside.kept c.drop_plan.new.hour c.self.inside.is_planned c.args.self.now c.drop_plan.ensures.hour c.self.view_is c.drop_plan.ensures.board)
    c.requires.alone c.requires.early
    (ap (λ events. reply_to c.args.setup.now events c.args.caller c.args.command.now) (sym settled) ∙ sym c.in-Ok.ensures.reply ∙ refused)
