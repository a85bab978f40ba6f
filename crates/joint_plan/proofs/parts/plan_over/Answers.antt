use Rattle.std.proofs.Common.{◌∙◌, ap, refl, subst}
use Rattle.std.proofs.lemmas.Result.{on_err_weaker, on_ok_weaker}
use Rattle.zone_graph.specs.Route.{IsIn}
use Rattle.hour_desk.specs.Desk.{with_nothing_planned}
use Rattle.joint_plan.specs.Rows.{dropped}
use Rattle.joint_plan.specs.Works.{with_part}
use Rattle.joint_plan.proofs.Dropped.{dropped-set}
use Rattle.joint_plan.proofs.Lists.{IsIn-get, IsIn-rest, first-set, get-within, on-err, rest-set}
use Rattle.joint_plan.proofs.parts.plan_over.Goals as goal

pub plan_at-requires-clause-can : goal.plan_at-requires-clause-can
plan_at-requires-clause-can g c = λ desk at. c.requires.can desk (IsIn-get (g.D.Desks.desks c.args.row.now) 0 desk at)

pub returns-in_err-first-clause-failed : goal.returns-in_err-first-clause-failed
returns-in_err-first-clause-failed g c =
    let old = g.D.Desks.desks c.args.row.now in
    let found = get-within old 0 c.requires.some in
    on-err c.from_residual.result
    (ap (λ l. dropped l) (c.in_err-first.ensures.failed found.0 found.1) ∙ dropped-set old 0 found.0 (with_nothing_planned found.0) found.1 refl)

pub plan_others-requires-clause-can : goal.plan_others-requires-clause-can
plan_others-requires-clause-can g c = λ desk i.
    let old = g.D.Desks.desks c.args.row.now in
    let found = get-within old 0 c.requires.some in
    c.requires.can desk (IsIn-rest old desk (subst (IsIn desk)
    (rest-set old (g.D.Desks.desks c.plan_at.new.row) (with_part c.args.work.now found.0) (c.in_ok-first.ensures.planned found.0 found.1)) i))

pub returns-clause-planned : goal.returns-clause-planned
returns-clause-planned g c =
    let old = g.D.Desks.desks c.args.row.now in
    let found = get-within old 0 c.requires.some in
    on_ok_weaker c.plan_others.result
    (λ planned. planned ∙ first-set (with_part c.args.work.now) old (g.D.Desks.desks c.plan_at.new.row) found.0 found.1 (c.in_ok-first.ensures.planned found.0 found.1)) c.plan_others.ensures.planned

pub returns-clause-failed : goal.returns-clause-failed
returns-clause-failed g c =
    let old = g.D.Desks.desks c.args.row.now in
    let found = get-within old 0 c.requires.some in
    on_err_weaker c.plan_others.result
    (λ failed. failed ∙ ap (λ l. dropped l) (c.in_ok-first.ensures.planned found.0 found.1) ∙ dropped-set old 0 found.0 (with_part c.args.work.now found.0) found.1 refl) c.plan_others.ensures.failed
