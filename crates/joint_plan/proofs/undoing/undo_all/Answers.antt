use Rattle.std.proofs.Common.{◌∙◌, arith}
use Rattle.hour_desk.specs.Desk.{DeskState, with_nothing_planned}
use Rattle.joint_plan.proofs.Lists.{changed-all, changed-get, changed-next, get-within, length-changed}
use Rattle.joint_plan.proofs.undoing.undo_all.Goals as goal

pub undo_at-requires : goal.undo_at-requires
undo_at-requires g c =
    let same = length-changed {X = DeskState} with_nothing_planned (g.D.Desks.desks c.args.row.now) (g.D.Desks.desks c.loop-i.row) c.loop-i.i c.loop-i.invariant.desks in
    omega (arith, same, c.len-i-end.ensures)

pub loop-i-preserved : goal.loop-i-preserved
loop-i-preserved g c =
    let old = g.D.Desks.desks c.args.row.now in
    let desks = g.D.Desks.desks c.loop-i.row in
    let i = c.loop-i.i in
    let found = get-within old i (omega (arith, c.len-i-end.ensures)) in
    let at = changed-get with_nothing_planned old desks i found.0 c.loop-i.invariant.desks found.1 in record {
      desks = changed-next with_nothing_planned old desks (g.D.Desks.desks c.undo_at.new.row) i found.0 c.loop-i.invariant.desks found.1 (c.undo_at.ensures.desks found.0 at);
      rest = c.undo_at.ensures.rest ∙ c.loop-i.invariant.rest;
    }

pub returns-clause-desks : goal.returns-clause-desks
returns-clause-desks g c =
    changed-all with_nothing_planned (g.D.Desks.desks c.args.row.now) (g.D.Desks.desks c.loop-i.row) c.loop-i.i c.loop-i.invariant.desks (omega (arith, c.len-i-end.ensures))
