use Rattle.std.proofs.Common.{◌≡◌, ◌∙◌, ℕ, suc, ◌-◌, ◌<◌, ◌≤◌, ◌++◌, List, Some, ap, arith, drop, flat_map, length, length-drop, refl, set, slice_get, sym}
use Rattle.hour_desk.specs.declared.part_work.PartWork.{PartWork}
use Rattle.hour_desk.specs.Desk.{DeskState, with_nothing_planned}
use Rattle.hour_desk.specs.Shared.{shared_events}
use Rattle.joint_plan.specs.Rows.{dropped}
use Rattle.joint_plan.specs.Works.{swept, with_part}
use Rattle.joint_plan.proofs.Dropped.{dropped-behind, dropped-set}
use Rattle.joint_plan.proofs.Lists.{IsIn-behind, behind-all, behind-at, behind-long, behind-next, changed-behind, drop-front, flat_map-next, get-within, on-err, take-end}
use Rattle.joint_plan.proofs.parts.plan_others.Goals as goal

pub plan_at-requires-clause-within : goal.plan_at-requires-clause-within
plan_at-requires-clause-within g c =
    omega (arith, behind-long (with_part c.args.work.now) (g.D.Desks.desks c.args.row.now) (g.D.Desks.desks c.loop-i.row) (c.loop-i.i - 1) c.loop-i.invariant.desks, c.len-i-end.ensures)

pub plan_at-requires-clause-can : goal.plan_at-requires-clause-can
plan_at-requires-clause-can g c = λ desk at.
    let old = g.D.Desks.desks c.args.row.now in
    let i = c.loop-i.i in
    let is : i ≡ suc (i - 1) = omega arith in
    c.requires.can desk (IsIn-behind old i (i - 1) desk is (sym (behind-at (with_part c.args.work.now) old (g.D.Desks.desks c.loop-i.row) i (i - 1) is c.loop-i.invariant.desks) ∙ at))

-- the desk at the place of a turn
at-place : (old ys : List DeskState) (w : PartWork) (i : ℕ) → 1 ≤ i → i < length old → ys ≡ changed-behind (with_part w) (i - 1) old
    → (desk : DeskState) × (slice_get old i ≡ Some desk) × (slice_get ys i ≡ Some desk)
at-place old ys w i low within are =
    let found = get-within old i within in
    (found.0, found.1, behind-at (with_part w) old ys i (i - 1) (omega (arith, low)) are ∙ found.1)

-- all but what is planned stays
kept : (old ys after : List DeskState) (w : PartWork) (i : ℕ) (desk other : DeskState) → ys ≡ changed-behind (with_part w) (i - 1) old → slice_get ys i ≡ Some desk
    → with_nothing_planned other ≡ with_nothing_planned desk → after ≡ set ys i other → dropped after ≡ dropped old
kept old ys after w i desk other are at same is =
    ap dropped is ∙ dropped-set ys i desk other at same ∙ ap dropped are ∙ dropped-behind (with_part w) (λ d. refl) (i - 1) old

pub returns-in_err-events-clause-failed : goal.returns-in_err-events-clause-failed
returns-in_err-events-clause-failed g c =
    let old = g.D.Desks.desks c.args.row.now in
    let ys = g.D.Desks.desks c.loop-i.row in
    let i = c.loop-i.i in
    let found = at-place old ys c.args.work.now i (omega arith) (omega (arith, c.len-i-end.ensures)) c.loop-i.invariant.desks in
    on-err c.from_residual.result
    (kept old ys (g.D.Desks.desks c.plan_at.new.row) c.args.work.now i found.0 (with_nothing_planned found.0) c.loop-i.invariant.desks found.2 refl (c.in_err-events.ensures.failed found.0 found.2))

pub returns-in_err-append_from-clause-failed : goal.returns-in_err-append_from-clause-failed
returns-in_err-append_from-clause-failed g c =
    let old = g.D.Desks.desks c.args.row.now in
    let ys = g.D.Desks.desks c.loop-i.row in
    let i = c.loop-i.i in
    let found = at-place old ys c.args.work.now i (omega arith) (omega (arith, c.len-i-end.ensures)) c.loop-i.invariant.desks in
    on-err c.from_residual-in_err-append_from.result
    (kept old ys (g.D.Desks.desks c.plan_at.new.row) c.args.work.now i found.0 (with_part c.args.work.now found.0) c.loop-i.invariant.desks found.2 refl (c.in_ok-events.ensures.planned found.0 found.2))

pub loop-i-preserved : goal.loop-i-preserved
loop-i-preserved g c =
    let w = c.args.work.now in
    let old = g.D.Desks.desks c.args.row.now in
    let ys = g.D.Desks.desks c.loop-i.row in
    let i = c.loop-i.i in
    let is : i ≡ suc (i - 1) = omega arith in
    let found = at-place old ys w i (omega arith) (omega (arith, c.len-i-end.ensures)) c.loop-i.invariant.desks in
    let desk = found.0 in
    let behind : drop c.args.shared c.in_ok-events.events ≡ swept w desk =
    ap (drop c.args.shared) (c.in_ok-events.ensures.events desk found.2) ∙ drop-front (shared_events desk.settled w) (swept w desk) c.args.shared (c.requires.shared desk.settled) in
    let more : c.append_from.new.made ≡ c.loop-i.made ++ swept w desk = c.in_ok-append_from.ensures ∙ ap (λ l. c.loop-i.made ++ l) behind in record {
      desks = behind-next (with_part w) old ys (g.D.Desks.desks c.plan_at.new.row) i (i - 1) desk is c.loop-i.invariant.desks found.1 (c.in_ok-events.ensures.planned desk found.2);
      made = flat_map-next (swept w) old i (i - 1) desk c.args.first c.loop-i.made c.append_from.new.made is found.1 c.loop-i.invariant.made more;
      rest = c.plan_at.ensures.rest ∙ c.loop-i.invariant.rest;
    }

pub returns-clause-events : goal.returns-clause-events
returns-clause-events g c =
    let old = g.D.Desks.desks c.args.row.now in
    c.loop-i.invariant.made
    ∙ ap (λ l. c.args.first ++ flat_map (swept c.args.work.now) l) (take-end (drop 1 old) (c.loop-i.i - 1) (omega (arith, length-drop 1 old, c.len-i-end.ensures)))

pub returns-clause-planned : goal.returns-clause-planned
returns-clause-planned g c =
    behind-all (with_part c.args.work.now) (g.D.Desks.desks c.args.row.now) (g.D.Desks.desks c.loop-i.row) (c.loop-i.i - 1) c.loop-i.invariant.desks (omega (arith, c.len-i-end.ensures))
