use Rattle.std.proofs.Common.{◌∙◌, arith}
use Rattle.hour_desk.specs.Desk.{DeskState, carried}
use Rattle.joint_plan.proofs.Lists.{changed-all, changed-get, changed-next, get-within, length-changed}
use Rattle.joint_plan.proofs.undoing.carry_all.Goals as goal

pub carry_at-requires : goal.carry_at-requires
carry_at-requires g c =
    let same = length-changed {X = DeskState} carried (g.D.Desks.desks c.args.row.now) (g.D.Desks.desks c.loop-i.row) c.loop-i.i c.loop-i.invariant.desks in
    omega (arith, same, c.len-i-end.ensures)

pub loop-i-preserved : goal.loop-i-preserved
loop-i-preserved g c =
    let old = g.D.Desks.desks c.args.row.now in
    let desks = g.D.Desks.desks c.loop-i.row in
    let i = c.loop-i.i in
    let found = get-within old i (omega (arith, c.len-i-end.ensures)) in
    let at = changed-get carried old desks i found.0 c.loop-i.invariant.desks found.1 in record {
      desks = changed-next carried old desks (g.D.Desks.desks c.carry_at.new.row) i found.0 c.loop-i.invariant.desks found.1 (c.carry_at.ensures.desks found.0 at);
      rest = c.carry_at.ensures.rest ∙ c.loop-i.invariant.rest;
    }

pub returns-clause-desks : goal.returns-clause-desks
returns-clause-desks g c =
    changed-all carried (g.D.Desks.desks c.args.row.now) (g.D.Desks.desks c.loop-i.row) c.loop-i.i c.loop-i.invariant.desks (omega (arith, c.len-i-end.ensures))
