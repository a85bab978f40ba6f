use Rattle.std.proofs.Common.{◌∙◌, arith, []}
use Rattle.hour_desk.specs.Desk.{DeskState, planning}
use Rattle.joint_plan.proofs.Lists.{changed-all, changed-get, changed-next, get-within, length-changed}
use Rattle.joint_plan.proofs.undoing.plan_nothing_at_all.Goals as goal

pub plan_nothing_at-requires : goal.plan_nothing_at-requires
plan_nothing_at-requires g c =
    let same = length-changed {X = DeskState} (λ desk. planning desk []) (g.D.Desks.desks c.args.row.now) (g.D.Desks.desks c.loop-i.row) c.loop-i.i c.loop-i.invariant.desks in
    omega (arith, same, c.len-i-end.ensures)

pub loop-i-preserved : goal.loop-i-preserved
loop-i-preserved g c =
    let old = g.D.Desks.desks c.args.row.now in
    let desks = g.D.Desks.desks c.loop-i.row in
    let i = c.loop-i.i in
    let found = get-within old i (omega (arith, c.len-i-end.ensures)) in
    let at = changed-get (λ desk. planning desk []) old desks i found.0 c.loop-i.invariant.desks found.1 in record {
      desks = changed-next (λ desk. planning desk []) old desks (g.D.Desks.desks c.plan_nothing_at.new.row) i found.0 c.loop-i.invariant.desks found.1 (c.plan_nothing_at.ensures.desks found.0 at);
      rest = c.plan_nothing_at.ensures.rest ∙ c.loop-i.invariant.rest;
    }

pub returns-clause-desks : goal.returns-clause-desks
returns-clause-desks g c =
    changed-all (λ desk. planning desk []) (g.D.Desks.desks c.args.row.now) (g.D.Desks.desks c.loop-i.row) c.loop-i.i c.loop-i.invariant.desks (omega (arith, c.len-i-end.ensures))
