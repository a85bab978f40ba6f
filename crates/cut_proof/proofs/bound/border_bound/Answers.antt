use Rattle.std.proofs.Common.{◌≡◌, ◌∙◌, ap, arith, subst, sym}
use Rattle.zone_graph.specs.Graph.{border_count}
use Rattle.zone_graph.specs.Rooms.{room_of}
use Rattle.cut_proof.specs.ZoneSet.{HoldsZones}
use Rattle.cut_proof.proofs.Bounds.{AreEnds, ends_held, room_over, room_over_all, room_over_crossing, room_over_inner}
use Rattle.cut_proof.proofs.bound.border_bound.Goals as goal
use Rattle.cut_proof.proofs.bound.border_bound.Goals.{then-starts_inside-ends_inside, else-starts_inside-ends_inside}

pub loop-border-preserved : goal.loop-border-preserved
loop-border-preserved c =
    let held = subst (HoldsZones c.of-inside.result.bits) c.as_slice.ensures c.of-inside.ensures in
    let known = c.loop-border-test.true in
    let ends : AreEnds c.args.grid.now c.args.zones.now c.loop-border.border c.contains-starts_inside.result c.contains-ends_inside.result =
    ends_held c.args.grid.now c.args.zones.now c.of-inside.result.bits c.loop-border.border c.ends-first.result.0 c.ends-first.result.1 c.contains-starts_inside.result c.contains-ends_inside.result
    c.ends-first.ensures.grid (omega (arith, known, c.borders-borders.ensures.count)) held
    (ap (λ p. p.0) c.ends-first.ensures.ends) (ap (λ p. p.1) c.ends-first.ensures.ends) c.contains-starts_inside.ensures c.contains-ends_inside.ensures in
    elim c.if-starts_inside-ends_inside.branch [
      | then-starts_inside-ends_inside w ↦
          let more = room_over_crossing c.args.grid.now (room_of c.args.rooms.now) c.args.zones.now c.args.towards c.loop-border.border
          c.contains-starts_inside.result c.contains-ends_inside.result ends w.if-starts_inside-ends_inside.true in
          record {
            summed = omega (arith, w.sum-is, w.from-sum.ensures, w.at.ensures, c.loop-border.invariant.summed, more);
            bounded = omega (arith, w.sum-is, w.from-sum.ensures, w.at.type_inv, c.loop-border.invariant.bounded);
          }
      | else-starts_inside-ends_inside w ↦
          let same = room_over_inner c.args.grid.now (room_of c.args.rooms.now) c.args.zones.now c.args.towards c.loop-border.border
          c.contains-starts_inside.result c.contains-ends_inside.result ends w.if-starts_inside-ends_inside.false in
          record {
            summed = w.sum-is ∙ c.loop-border.invariant.summed ∙ sym same;
            bounded = omega (arith, w.sum-is, c.loop-border.invariant.bounded);
          }
    ]

pub returns : goal.returns
returns c =
    let all = c.loop-border-test.false in
    let last : c.loop-border.border ≡ border_count c.args.grid.now = omega (arith, all, c.loop-border.auto.border-end, c.borders-borders.ensures.count) in
    c.loop-border.invariant.summed ∙ ap (room_over c.args.grid.now (room_of c.args.rooms.now) c.args.zones.now c.args.towards) last
    ∙ room_over_all c.args.grid.now (room_of c.args.rooms.now) c.args.zones.now c.args.towards
