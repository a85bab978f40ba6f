use Rattle.std.proofs.Common.{◌∙◌, List, ap, subst, sym}
use Rattle.market_model.specs.History.{events_of, journal_events}
use Rattle.hour_desk.specs.Desk.{DeskState}
use Rattle.laws_of_maximum.specs.Unfilled.{IsUnfilledOrder}
use Rattle.laws_of_maximum.proofs.Certified.{unfilled_certified}
use Rattle.joint_plan.specs.Rows.{AreAsked, IsHistoryOf, dropped, planning_all}
use Rattle.joint_plan.proofs.Dropped.{asked-dropped, journal-dropped, planning-dropped, twice-dropped}
use Rattle.joint_plan.proofs.Histories.{journal-history}
use Rattle.joint_plan.proofs.joint.plan_joint.Goals as goal

pub plan_asked-requires-clause-asked : goal.plan_asked-requires-clause-asked
plan_asked-requires-clause-asked g c =
    subst (λ (desks : List DeskState). AreAsked c.args.setup.now c.args.grid.now c.args.caller c.args.command.now desks) (sym c.undo_all.ensures.desks)
    (asked-dropped c.args.setup.now c.args.grid.now c.args.caller c.args.command.now (g.D.Desks.desks c.args.row.now) c.requires.ready c.requires.early c.requires.hours)

pub returns-in-Ok-clause-reply : goal.returns-in-Ok-clause-reply
returns-in-Ok-clause-reply g c = λ entries journal.
    let old = g.D.Desks.desks c.args.row.now in
    c.in-Ok.ensures.reply (journal_events entries)
    (subst (λ (desks : List DeskState). IsHistoryOf c.args.setup.now desks (journal_events entries)) (sym c.undo_all.ensures.desks)
    (journal-history c.args.setup.now (dropped old) entries (journal-dropped c.args.setup.now old entries journal)))

pub returns-in-Ok-clause-certified : goal.returns-in-Ok-clause-certified
returns-in-Ok-clause-certified g c = λ entries journal zones bound refused.
    subst (λ graph. IsUnfilledOrder graph (journal_events entries) c.args.caller c.args.command.now zones bound) c.requires.ready.over_setup
    (unfilled_certified c.args.setup.now (journal_events entries) c.args.caller c.args.command.now zones bound journal.is_setup
    (journal-history c.args.setup.now (g.D.Desks.desks c.args.row.now) entries journal).is_history
    (sym (returns-in-Ok-clause-reply g c entries journal) ∙ refused))

pub returns-in-Ok-clause-planned : goal.returns-in-Ok-clause-planned
returns-in-Ok-clause-planned g c =
    let old = g.D.Desks.desks c.args.row.now in
    c.in-Ok.ensures.planned ∙ ap (λ desks. planning_all desks (events_of c.in-Ok.reply)) c.undo_all.ensures.desks ∙ planning-dropped old (events_of c.in-Ok.reply)

pub returns-in-Err-clause-failed : goal.returns-in-Err-clause-failed
returns-in-Err-clause-failed g c =
    let old = g.D.Desks.desks c.args.row.now in
    c.undo_all-in-Err.ensures.desks ∙ c.in-Err.ensures.failed ∙ ap (λ desks. dropped desks) c.undo_all.ensures.desks ∙ twice-dropped old
