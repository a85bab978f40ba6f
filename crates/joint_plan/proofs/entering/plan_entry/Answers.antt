use Rattle.std.proofs.Common.{◌∙◌, Some, sym}
use Rattle.market_model.specs.declared.command.Command.TheVariants as command
use Rattle.joint_plan.proofs.Asked.{asked-hours}
use Rattle.joint_plan.proofs.AskedEntries.{entry-can_first, entry-can_others, entry-done, entry-full, entry-planned, entry-seek, entry-some}
use Rattle.joint_plan.proofs.AskedPeriods.{closed-alone}
use Rattle.joint_plan.proofs.Lists.{IsIn-get, get-within}
use Rattle.joint_plan.proofs.OverRanges.{joint-refused}
use Rattle.joint_plan.proofs.entering.plan_entry.Goals as goal

pub returns-in-Some-clause-reply : goal.returns-in-Some-clause-reply
returns-in-Some-clause-reply g c = λ history is.
    let desks = g.D.Desks.desks c.args.row.now in
    let given = command.EnterBlock c.args.order.now in
    c.refuse.ensures.reply
    ∙ sym (joint-refused c.args.setup.now history desks c.args.caller given is c.requires.asked.early
    (asked-hours c.args.setup.now c.args.grid.now c.args.caller given desks c.requires.asked) c.in-Some.refusal tt (closed-alone (Some c.in-Some.refusal) desks c.in-Some.ensures))

pub period_rooms-requires-clause-some : goal.period_rooms-requires-clause-some
period_rooms-requires-clause-some g c = let desks = g.D.Desks.desks c.args.row.now in entry-some c.args.setup.now c.args.grid.now c.args.caller c.args.order.now desks c.requires.asked

pub find_deal-requires-clause-some : goal.find_deal-requires-clause-some
find_deal-requires-clause-some g c = let desks = g.D.Desks.desks c.args.row.now in entry-some c.args.setup.now c.args.grid.now c.args.caller c.args.order.now desks c.requires.asked

pub find_deal-requires-clause-can : goal.find_deal-requires-clause-can
find_deal-requires-clause-can g c = λ desk at.
    let desks = g.D.Desks.desks c.args.row.now in
    entry-seek c.args.setup.now c.args.grid.now c.args.caller c.args.order.now desks c.requires.asked desk at c.in_ok-rooms.rooms c.in_ok-rooms.ensures

pub refuse_full-requires-clause-some : goal.refuse_full-requires-clause-some
refuse_full-requires-clause-some g c = let desks = g.D.Desks.desks c.args.row.now in entry-some c.args.setup.now c.args.grid.now c.args.caller c.args.order.now desks c.requires.asked

pub refuse_full-requires-clause-unplanned : goal.refuse_full-requires-clause-unplanned
refuse_full-requires-clause-unplanned g c = λ desk at. c.requires.asked.unplanned desk (IsIn-get (g.D.Desks.desks c.args.row.now) 0 desk at)

pub returns-in-Some-refuse_full-clause-reply : goal.returns-in-Some-refuse_full-clause-reply
returns-in-Some-refuse_full-clause-reply g c = λ history is.
    let desks = g.D.Desks.desks c.args.row.now in
    let found = get-within desks 0 (entry-some c.args.setup.now c.args.grid.now c.args.caller c.args.order.now desks c.requires.asked) in
    c.refuse-in-Some-refuse_full.ensures.reply
    ∙ entry-full c.args.setup.now c.args.grid.now c.args.caller c.args.order.now desks c.requires.asked found.0 found.1 c.in_ok-rooms.rooms c.in_ok-rooms.ensures c.in_ok-deal.deal (c.in_ok-deal.ensures found.0 found.1) c.in_default.ensures c.in-Some-refuse_full.refusal (c.in-Some-refuse_full.ensures found.0 found.1) history is

pub plan_entered-requires-clause-some : goal.plan_entered-requires-clause-some
plan_entered-requires-clause-some g c = let desks = g.D.Desks.desks c.args.row.now in entry-some c.args.setup.now c.args.grid.now c.args.caller c.args.order.now desks c.requires.asked

pub plan_entered-requires-clause-first : goal.plan_entered-requires-clause-first
plan_entered-requires-clause-first g c = λ desk at.
    let desks = g.D.Desks.desks c.args.row.now in
    entry-can_first c.args.setup.now c.args.grid.now c.args.caller c.args.order.now desks c.requires.asked desk at c.in_ok-rooms.rooms c.in_ok-rooms.ensures c.in_ok-deal.deal (c.in_ok-deal.ensures desk at) c.in_default.ensures (c.in_default-refuse_full.ensures desk at)

pub plan_entered-requires-clause-others : goal.plan_entered-requires-clause-others
plan_entered-requires-clause-others g c =
    let desks = g.D.Desks.desks c.args.row.now in
    let found = get-within desks 0 (entry-some c.args.setup.now c.args.grid.now c.args.caller c.args.order.now desks c.requires.asked) in
    entry-can_others c.args.setup.now c.args.grid.now c.args.caller c.args.order.now desks c.requires.asked found.0 found.1 c.in_ok-rooms.rooms c.in_ok-rooms.ensures c.in_ok-deal.deal (c.in_ok-deal.ensures found.0 found.1) c.in_default.ensures (c.in_default-refuse_full.ensures found.0 found.1)

pub returns-clause-reply : goal.returns-clause-reply
returns-clause-reply g c = λ history is.
    let desks = g.D.Desks.desks c.args.row.now in
    let found = get-within desks 0 (entry-some c.args.setup.now c.args.grid.now c.args.caller c.args.order.now desks c.requires.asked) in
    entry-done c.args.setup.now c.args.grid.now c.args.caller c.args.order.now desks c.requires.asked found.0 found.1 c.in_ok-rooms.rooms c.in_ok-rooms.ensures c.in_ok-deal.deal (c.in_ok-deal.ensures found.0 found.1) c.in_default.ensures (c.in_default-refuse_full.ensures found.0 found.1) c.in_ok-events.events (c.in_ok-events.ensures.events found.0 found.1) history is

pub returns-clause-planned : goal.returns-clause-planned
returns-clause-planned g c =
    let desks = g.D.Desks.desks c.args.row.now in
    let found = get-within desks 0 (entry-some c.args.setup.now c.args.grid.now c.args.caller c.args.order.now desks c.requires.asked) in
    entry-planned c.args.setup.now c.args.grid.now c.args.caller c.args.order.now desks c.requires.asked found.0 found.1 c.in_ok-rooms.rooms c.in_ok-rooms.ensures c.in_ok-deal.deal (c.in_ok-deal.ensures found.0 found.1) c.in_default.ensures (c.in_default-refuse_full.ensures found.0 found.1) c.in_ok-events.events (c.in_ok-events.ensures.events found.0 found.1)
    (g.D.Desks.desks c.plan_entered.new.row) (c.in_ok-events.ensures.planned found.0 found.1)
