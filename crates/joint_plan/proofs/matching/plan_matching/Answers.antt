use Rattle.std.proofs.Common.{◌∙◌, ℕ, ◌<◌, ◌≤◌, List, Some, ap, length, refl, subst, sym}
use Rattle.block_match.specs.declared.deal.BlockDeal.{BlockDeal}
use Rattle.market_model.specs.declared.command.Command.TheVariants as command
use Rattle.hour_desk.specs.Desk.{planning, with_nothing_planned}
use Rattle.hour_desk.specs.Shared.{then_swept}
use Rattle.laws_of_joint_commands.specs.MatchingBlocks.{legs_of}
use Rattle.joint_plan.specs.Rows.{dropped}
use Rattle.joint_plan.proofs.Asked.{asked-hours}
use Rattle.joint_plan.proofs.AskedPeriods.{closed-alone, period-can, period-some}
use Rattle.joint_plan.proofs.Dropped.{dropped-set}
use Rattle.joint_plan.proofs.Lists.{get-within, on-err, set-long}
use Rattle.joint_plan.proofs.Matched.{matched-can, matched-legs, matched-planned, matched-reply}
use Rattle.joint_plan.proofs.OverRanges.{joint-refused}
use Rattle.joint_plan.proofs.matching.plan_matching.Goals as goal

pub returns-in-Some-clause-reply : goal.returns-in-Some-clause-reply
returns-in-Some-clause-reply g c = λ history is.
    let desks = g.D.Desks.desks c.args.row.now in
    let given = command.Blocks c.args.first c.args.last in
    c.refuse.ensures.reply
    ∙ sym (joint-refused c.args.setup.now history desks c.args.caller given is c.requires.asked.early
    (asked-hours c.args.setup.now c.args.grid.now c.args.caller given desks c.requires.asked) c.in-Some.refusal tt (closed-alone (Some c.in-Some.refusal) desks c.in-Some.ensures))

pub period_rooms-requires-clause-some : goal.period_rooms-requires-clause-some
period_rooms-requires-clause-some g c = period-some c.args.setup.now c.args.grid.now c.args.caller c.args.first c.args.last (g.D.Desks.desks c.args.row.now) c.requires.asked

pub match_first-requires-clause-some : goal.match_first-requires-clause-some
match_first-requires-clause-some g c = period-some c.args.setup.now c.args.grid.now c.args.caller c.args.first c.args.last (g.D.Desks.desks c.args.row.now) c.requires.asked

pub match_first-requires-clause-can : goal.match_first-requires-clause-can
match_first-requires-clause-can g c = λ desk at.
    period-can c.args.setup.now c.args.grid.now c.args.caller c.args.first c.args.last (g.D.Desks.desks c.args.row.now) c.requires.asked desk at c.in_ok-rooms.rooms c.in_ok-rooms.ensures

pub returns-in_err-deals-clause-failed : goal.returns-in_err-deals-clause-failed
returns-in_err-deals-clause-failed g c =
    let desks = g.D.Desks.desks c.args.row.now in
    let some = period-some c.args.setup.now c.args.grid.now c.args.caller c.args.first c.args.last desks c.requires.asked in
    let found = get-within desks 0 some in
    on-err c.from_residual-in_err-deals.result
    (ap (λ l. dropped l) (c.in_err-deals.ensures.failed found.0 found.1) ∙ dropped-set desks 0 found.0 (with_nothing_planned found.0) found.1 refl)

pub planned_at_first-requires : goal.planned_at_first-requires
planned_at_first-requires g c =
    let desks = g.D.Desks.desks c.args.row.now in
    let some = period-some c.args.setup.now c.args.grid.now c.args.caller c.args.first c.args.last desks c.requires.asked in
    let found = get-within desks 0 some in
    subst (λ n. 0 < n) (sym (set-long desks (g.D.Desks.desks c.match_first.new.row) 0 _ (c.in_ok-deals.ensures.planned found.0 found.1))) some

pub returns-in_err-planned-clause-failed : goal.returns-in_err-planned-clause-failed
returns-in_err-planned-clause-failed g c =
    let desks = g.D.Desks.desks c.args.row.now in
    let some = period-some c.args.setup.now c.args.grid.now c.args.caller c.args.first c.args.last desks c.requires.asked in
    let found = get-within desks 0 some in
    on-err c.from_residual-in_err-planned.result
    (ap (λ l. dropped l) (c.in_ok-deals.ensures.planned found.0 found.1)
    ∙ dropped-set desks 0 found.0 (planning found.0 (then_swept found.0 (legs_of found.0.hour c.args.last c.in_ok-deals.deals))) found.1 refl)

pub legs_in-legs-requires : goal.legs_in-legs-requires
legs_in-legs-requires g c =
    let few = matched-legs c.args.setup.now c.args.grid.now c.args.caller c.args.first c.args.last (g.D.Desks.desks c.args.row.now) c.requires.asked
    (g.D.Desks.desks c.match_first.new.row) c.in_ok-deals.deals
    (record { rooms = c.in_ok-rooms.rooms; are = c.in_ok-rooms.ensures; free = c.in_default.ensures; found = c.in_ok-deals.ensures.deals; done = c.in_ok-deals.ensures.planned })
    c.in_ok-planned.planned c.in_ok-planned.ensures in
    subst (λ (ds : List BlockDeal). length (legs_of c.args.first c.args.last ds) ≤ c.len.result) (sym c.as_slice.ensures)
    (subst (λ (n : ℕ). length (legs_of c.args.first c.args.last c.in_ok-deals.deals) ≤ n) (sym c.len.ensures) few)

pub plan_others-requires-clause-can : goal.plan_others-requires-clause-can
plan_others-requires-clause-can g c =
    matched-can c.args.setup.now c.args.grid.now c.args.caller c.args.first c.args.last (g.D.Desks.desks c.args.row.now) c.requires.asked
    (g.D.Desks.desks c.match_first.new.row) c.in_ok-deals.deals
    (record { rooms = c.in_ok-rooms.rooms; are = c.in_ok-rooms.ensures; free = c.in_default.ensures; found = c.in_ok-deals.ensures.deals; done = c.in_ok-deals.ensures.planned })

pub returns-in_err-events-clause-failed : goal.returns-in_err-events-clause-failed
returns-in_err-events-clause-failed g c =
    let desks = g.D.Desks.desks c.args.row.now in
    let some = period-some c.args.setup.now c.args.grid.now c.args.caller c.args.first c.args.last desks c.requires.asked in
    let found = get-within desks 0 some in
    on-err c.from_residual-in_err-events.result
    (c.in_err-events.ensures.failed ∙ ap (λ l. dropped l) (c.in_ok-deals.ensures.planned found.0 found.1)
    ∙ dropped-set desks 0 found.0 (planning found.0 (then_swept found.0 (legs_of found.0.hour c.args.last c.in_ok-deals.deals))) found.1 refl)

pub returns-clause-reply : goal.returns-clause-reply
returns-clause-reply g c =
    matched-reply c.args.setup.now c.args.grid.now c.args.caller c.args.first c.args.last (g.D.Desks.desks c.args.row.now) c.requires.asked
    (g.D.Desks.desks c.match_first.new.row) c.in_ok-deals.deals
    (record { rooms = c.in_ok-rooms.rooms; are = c.in_ok-rooms.ensures; free = c.in_default.ensures; found = c.in_ok-deals.ensures.deals; done = c.in_ok-deals.ensures.planned })
    c.in_ok-planned.planned c.in_ok-planned.ensures c.in_ok-events.events c.in_ok-events.ensures.events

pub returns-clause-planned : goal.returns-clause-planned
returns-clause-planned g c =
    matched-planned c.args.setup.now c.args.grid.now c.args.caller c.args.first c.args.last (g.D.Desks.desks c.args.row.now) c.requires.asked
    (g.D.Desks.desks c.match_first.new.row) c.in_ok-deals.deals
    (record { rooms = c.in_ok-rooms.rooms; are = c.in_ok-rooms.ensures; free = c.in_default.ensures; found = c.in_ok-deals.ensures.deals; done = c.in_ok-deals.ensures.planned })
    c.in_ok-planned.planned c.in_ok-planned.ensures c.in_ok-events.events c.in_ok-events.ensures.events
    (g.D.Desks.desks c.plan_others.new.row) c.in_ok-events.ensures.planned
