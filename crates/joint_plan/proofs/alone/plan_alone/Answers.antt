use Rattle.std.proofs.Common.{◌≡◌, ◌∙◌, ap, set, sym}
use Rattle.std.proofs.lemmas.Result.{IfOk-weaker, on_err_weaker}
use Rattle.market_model.specs.declared.reply.Reply.{Reply}
use Rattle.market_model.specs.History.{events_of}
use Rattle.market_model.specs.Market.{reply_to}
use Rattle.hour_desk.specs.Desk.{with_nothing_planned}
use Rattle.joint_plan.specs.Rows.{dropped, planning_all}
use Rattle.joint_plan.proofs.Dropped.{dropped-set}
use Rattle.joint_plan.proofs.Lists.{IsIn-get, both-ok}
use Rattle.joint_plan.proofs.OneDesk.{alone-hours, alone-planned, alone-reply, one-desk}
use Rattle.joint_plan.proofs.alone.plan_alone.Goals as goal

pub plan-requires-clause-grid : goal.plan-requires-clause-grid
plan-requires-clause-grid g c =
    sym (c.requires.asked.ready.over c.desk_mut.result.now (IsIn-get (g.D.Desks.desks c.args.row.now) 0 c.desk_mut.result.now c.desk_mut.ensures.value))

pub plan-requires-clause-setup : goal.plan-requires-clause-setup
plan-requires-clause-setup g c =
    c.requires.asked.ready.over_setup
    ∙ sym (c.requires.asked.ready.over c.desk_mut.result.now (IsIn-get (g.D.Desks.desks c.args.row.now) 0 c.desk_mut.result.now c.desk_mut.ensures.value))

pub plan-requires-clause-few : goal.plan-requires-clause-few
plan-requires-clause-few g c =
    c.requires.asked.ready.numbers c.desk_mut.result.now (IsIn-get (g.D.Desks.desks c.args.row.now) 0 c.desk_mut.result.now c.desk_mut.ensures.value)

pub plan-requires-clause-alone : goal.plan-requires-clause-alone
plan-requires-clause-alone g c =
    let desks = g.D.Desks.desks c.args.row.now in
    alone-hours c.args.setup.now c.args.grid.now c.args.caller c.args.command.now desks c.desk_mut.result.now c.requires.asked
    (one-desk desks c.desk_mut.result.now c.requires.one c.desk_mut.ensures.value)

pub returns-clause-reply : goal.returns-clause-reply
returns-clause-reply g c = λ history is.
    let desks = g.D.Desks.desks c.args.row.now in
    IfOk-weaker c.plan.result (λ reply. reply ≡ reply_to c.args.setup.now c.desk_mut.result.now.settled c.args.caller c.args.command.now)
    (λ reply. reply ≡ reply_to c.args.setup.now history c.args.caller c.args.command.now)
    (λ reply told. told ∙ alone-reply c.args.setup.now c.args.grid.now c.args.caller c.args.command.now desks c.desk_mut.result.now c.requires.asked
    (one-desk desks c.desk_mut.result.now c.requires.one c.desk_mut.ensures.value) history is) c.plan.ensures.reply

pub returns-clause-planned : goal.returns-clause-planned
returns-clause-planned g c =
    let desks = g.D.Desks.desks c.args.row.now in
    let desk = c.desk_mut.result.now in
    let written = g.met.D.Desks.desks_with c.args.row.now 0 c.plan.new.self in
    both-ok (λ reply. reply ≡ reply_to c.args.setup.now desk.settled c.args.caller c.args.command.now)
    (λ reply. g.D.Desks.desks (g.D.Desks.with_desk c.args.row.now 0 c.plan.new.self) ≡ planning_all desks (events_of reply)) c.plan.result c.plan.ensures.reply c.plan.ensures.planned
    (λ reply told planned.
    alone-planned c.args.setup.now c.args.grid.now c.args.caller c.args.command.now desks desk c.requires.asked
    (one-desk desks desk c.requires.one c.desk_mut.ensures.value) (g.D.Desks.desks (g.D.Desks.with_desk c.args.row.now 0 c.plan.new.self))
    (written ∙ ap (λ d. set desks 0 d) planned)
    ∙ ap (λ (r : Reply). planning_all desks (events_of r)) (sym told))

pub returns-clause-failed : goal.returns-clause-failed
returns-clause-failed g c =
    let desks = g.D.Desks.desks c.args.row.now in
    let desk = c.desk_mut.result.now in
    on_err_weaker c.plan.result
    (λ failed. ap (λ l. dropped l) (g.met.D.Desks.desks_with c.args.row.now 0 c.plan.new.self) ∙ dropped-set desks 0 desk c.plan.new.self c.desk_mut.ensures.value (ap with_nothing_planned failed)) c.plan.ensures.failed
