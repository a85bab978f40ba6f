use Rattle.std.proofs.Common.{◌∙◌, Some, ap, sym}
use Rattle.market_model.specs.declared.reply.Reply.TheVariants as reply
use Rattle.joint_plan.specs.Rows.{planning_all}
use Rattle.joint_plan.proofs.Asked.{asked-hours, asked-state}
use Rattle.joint_plan.proofs.AskedRanges.{asked-part, asked-planned, asked-reply, range-known}
use Rattle.joint_plan.proofs.OverRanges.{joint-refused, range-joint}
use Rattle.joint_plan.proofs.Touched.{asked-some}
use Rattle.joint_plan.proofs.ranges.plan_range.Goals as goal

pub plan_over-requires-clause-some : goal.plan_over-requires-clause-some
plan_over-requires-clause-some g c =
    asked-some c.args.setup.now c.args.grid.now c.args.caller c.args.command.now (g.D.Desks.desks c.args.row.now) c.requires.asked (range-joint c.args.command.now c.requires.range)

pub returns-in-Some-clause-reply : goal.returns-in-Some-clause-reply
returns-in-Some-clause-reply g c = λ history is.
    let desks = g.D.Desks.desks c.args.row.now in
    c.refuse.ensures.reply
    ∙ sym (joint-refused c.args.setup.now history desks c.args.caller c.args.command.now is c.requires.asked.early
    (asked-hours c.args.setup.now c.args.grid.now c.args.caller c.args.command.now desks c.requires.asked) c.in-Some.refusal (range-joint c.args.command.now c.requires.range)
    (asked-state c.args.setup.now c.args.grid.now c.args.caller c.args.command.now desks c.requires.asked (Some c.in-Some.refusal) c.in-Some.ensures))

pub plan_over-requires-clause-can : goal.plan_over-requires-clause-can
plan_over-requires-clause-can g c =
    asked-part c.args.setup.now c.args.grid.now c.args.caller c.args.command.now (g.D.Desks.desks c.args.row.now) c.requires.asked c.requires.range
    c.in_default.ensures c.in-Some-range_work.work c.in-Some-range_work.ensures.work

pub unreachable-requires : goal.unreachable-requires
unreachable-requires g c =
    range-known c.args.setup.now c.args.grid.now c.args.caller c.args.command.now (g.D.Desks.desks c.args.row.now) c.requires.asked c.requires.range c.in-None.ensures.work

pub returns-clause-reply : goal.returns-clause-reply
returns-clause-reply g c = λ history is.
    ap reply.Done c.in_ok-events-in-Some-range_work.ensures.events
    ∙ asked-reply c.args.setup.now c.args.grid.now c.args.caller c.args.command.now (g.D.Desks.desks c.args.row.now) c.requires.asked c.requires.range
    c.in_default.ensures c.in-Some-range_work.work c.in-Some-range_work.ensures.work (asked-some c.args.setup.now c.args.grid.now c.args.caller c.args.command.now (g.D.Desks.desks c.args.row.now) c.requires.asked (range-joint c.args.command.now c.requires.range)) history is

pub returns-clause-planned : goal.returns-clause-planned
returns-clause-planned g c =
    let desks = g.D.Desks.desks c.args.row.now in
    c.in_ok-events-in-Some-range_work.ensures.planned
    ∙ asked-planned c.args.setup.now c.args.grid.now c.args.caller c.args.command.now desks c.requires.asked c.requires.range
    c.in_default.ensures c.in-Some-range_work.work c.in-Some-range_work.ensures.work (asked-some c.args.setup.now c.args.grid.now c.args.caller c.args.command.now desks c.requires.asked (range-joint c.args.command.now c.requires.range))
    ∙ ap (planning_all desks) (sym c.in_ok-events-in-Some-range_work.ensures.events)
