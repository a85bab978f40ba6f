use Rattle.std.proofs.Common.{◌≡◌, ◌∙◌, ◌+◌, ◌<◌, drop, length, sym, ap, subst, arith}
use Rattle.zone_graph.specs.Rooms.{room_of}
use Rattle.zone_graph.specs.Pour.{room_after}
use Rattle.cut_proof.proofs.Carrying.{after_leg}
use Rattle.route_choice.specs.Poured.{rooms_after}
use Rattle.kept_hour.proofs.Carrying.{from-place}
use Rattle.desk_changes.specs.Rooms.{CanCarryEach}
use Rattle.desk_changes.proofs.rooms.carry_each.Goals as goal

pub loop-leg-preserved : goal.loop-leg-preserved
loop-leg-preserved c =
    let within : c.loop-leg.leg-index < length c.args.legs.now = omega arith in
    let here = from-place c.args.legs.now c.loop-leg.leg-index within c.leg-item.result _ c.leg-item.is in
    let behind = drop (c.loop-leg.leg-index + 1) c.args.legs.now in
    let was = room_of c.loop-leg.rooms in
    let can = (subst (CanCarryEach (length c.loop-leg.rooms) was) here c.loop-leg.invariant.can).1 in
    let lower : room_after was c.leg-item.result ≡ room_of c.carry.new.rooms =
    after_leg was (room_of c.carry.new.rooms) c.leg-item.result c.as_slice.result.now c.as_slice.ensures c.carry.ensures.rooms in
    record {
      size = c.carry.ensures.size ∙ c.loop-leg.invariant.size;
      can = subst (λ n. CanCarryEach n (room_of c.carry.new.rooms) behind) (sym c.carry.ensures.size) (subst (λ r. CanCarryEach (length c.loop-leg.rooms) r behind) lower can);
      rest = λ arc. ap (λ r. rooms_after r behind arc) (sym lower) ∙ ap (λ ls. rooms_after was ls arc) (sym here) ∙ c.loop-leg.invariant.rest arc;
    }
