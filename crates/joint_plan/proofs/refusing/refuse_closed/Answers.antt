use Rattle.std.proofs.Common.{◌≡◌, ◌∙◌, Some, true, ap, sym}
use Rattle.std.specs.Option.{option_map}
use Rattle.hour_desk.specs.Desk.{DeskState}
use Rattle.market_model.specs.declared.refusal.Refusal.TheVariants as refusal
use Rattle.market_model.specs.Room.{is_closed_phase}
use Rattle.joint_plan.specs.Refusing.{is_closed}
use Rattle.joint_plan.proofs.Lists.{IsIn-get, find-here, find-next}
use Rattle.joint_plan.proofs.refusing.refuse_closed.Goals as goal

pub phase-requires : goal.phase-requires
phase-requires g c = c.requires c.desk-desk.result.now (IsIn-get (g.D.Desks.desks c.args.row.now) c.loop-i.i c.desk-desk.result.now c.desk-desk.ensures)

pub returns-then-is_closed : goal.returns-then-is_closed
returns-then-is_closed g c =
    let desk = c.desk-desk.result.now in
    let holds : is_closed desk ≡ true = ap is_closed_phase (sym c.phase.ensures) ∙ sym c.is_closed.ensures ∙ c.if-is_closed.true in
    let found = sym c.loop-i.invariant ∙ find-here is_closed (g.D.Desks.desks c.args.row.now) c.loop-i.i desk c.desk-desk.ensures holds in
    ap (λ hour. Some (refusal.Closed hour)) c.hour.ensures ∙ sym (ap (option_map (λ (other : DeskState). refusal.Closed other.hour)) found)

pub loop-i-preserved : goal.loop-i-preserved
loop-i-preserved g c =
    let desk = c.desk-desk.result.now in
    let fails = ap is_closed_phase (sym c.phase.ensures) ∙ sym c.is_closed.ensures ∙ c.if-is_closed.false in
    sym (find-next is_closed (g.D.Desks.desks c.args.row.now) c.loop-i.i desk c.desk-desk.ensures fails) ∙ c.loop-i.invariant
