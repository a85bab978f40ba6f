use Rattle.std.proofs.Common.{◌∙◌, List, ap, refl, subst, sym}
use Rattle.std.proofs.lemmas.Result.{on_err_weaker}
use Rattle.zone_graph.specs.Route.{IsIn}
use Rattle.block_match.specs.declared.deal.BlockDeal.{BlockDeal}
use Rattle.hour_desk.specs.declared.part_work.PartWork.{PartWork}
use Rattle.hour_desk.specs.Desk.{with_nothing_planned}
use Rattle.joint_plan.specs.Entering.{first_work, other_work}
use Rattle.joint_plan.specs.Rows.{dropped}
use Rattle.joint_plan.specs.Works.{CanPlanPart, with_part}
use Rattle.joint_plan.proofs.Dropped.{dropped-set}
use Rattle.joint_plan.proofs.Lists.{get-within, on-err, rest-set}
use Rattle.joint_plan.proofs.entering.plan_entered.Goals as goal

pub plan_at-requires-clause-can : goal.plan_at-requires-clause-can
plan_at-requires-clause-can g c = λ desk at.
    subst (λ (deals : List BlockDeal). CanPlanPart c.args.grid.now (first_work c.args.caller c.args.order.now deals) desk) (sym c.in_ok-deals_of.ensures) (c.requires.first desk at)

pub returns-in_err-first-clause-failed : goal.returns-in_err-first-clause-failed
returns-in_err-first-clause-failed g c =
    let old = g.D.Desks.desks c.args.row.now in
    let found = get-within old 0 c.requires.some in
    on-err c.from_residual-in_err-first.result
    (ap (λ l. dropped l) (c.in_err-first.ensures.failed found.0 found.1) ∙ dropped-set old 0 found.0 (with_nothing_planned found.0) found.1 refl)

pub plan_others-requires-clause-can : goal.plan_others-requires-clause-can
plan_others-requires-clause-can g c = λ desk i.
    let old = g.D.Desks.desks c.args.row.now in
    let found = get-within old 0 c.requires.some in
    let there = subst (IsIn desk)
    (rest-set old (g.D.Desks.desks c.plan_at.new.row) (with_part (first_work c.args.caller c.args.order.now c.in_ok-deals_of.field-0) found.0) (c.in_ok-first.ensures.planned found.0 found.1)) i in
    let same = c.without_entry-work.ensures ∙ ap (other_work c.args.order.now) c.in_ok-deals_of.ensures in
    subst (λ (w : PartWork). CanPlanPart c.args.grid.now w desk) (sym same) (c.requires.others desk there)

pub returns-clause-failed : goal.returns-clause-failed
returns-clause-failed g c =
    let old = g.D.Desks.desks c.args.row.now in
    let found = get-within old 0 c.requires.some in
    on_err_weaker c.plan_others.result
    (λ failed. failed ∙ ap (λ l. dropped l) (c.in_ok-first.ensures.planned found.0 found.1)
    ∙ dropped-set old 0 found.0 (with_part (first_work c.args.caller c.args.order.now c.in_ok-deals_of.field-0) found.0) found.1 refl) c.plan_others.ensures.failed
