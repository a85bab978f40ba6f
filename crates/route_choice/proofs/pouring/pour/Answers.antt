use Rattle.std.proofs.Common.{◌≡◌, ◌∙◌, ◌-◌, ◌++◌, ◌∷◌, [], Some, length, sym, subst, arith}
use Rattle.zone_graph.specs.Pour.{pour_leg}
use Rattle.zone_graph.specs.Rooms.{room_of}
use Rattle.cut_proof.specs.Carrying.{CanCarry, FitTogether}
use Rattle.cut_proof.proofs.Carrying.{after_leg, fit-kept, route_can_carry}
use Rattle.route_choice.proofs.Pours.{IsPoured, IsPourLeg, after_some, carried_most, ended, on_err, one_more_over, pour_leg-is}
use Rattle.route_choice.proofs.pouring.pour.Goals as goal

pub returns-in_err-leg-clause-some : goal.returns-in_err-leg-clause-some
returns-in_err-leg-clause-some c =
    on_err c.from_residual.result
    (after_some c.args.grid.now (room_of c.args.rooms.now) c.args.from c.args.to c.args.most (room_of c.loop-legs.rooms) c.loop-legs.left c.loop-legs.legs
    c.next_leg.ensures.grid.is_graph c.loop-legs.invariant.poured)

-- the next leg
next : (c : goal.After-as_slice) → pour_leg c.args.grid.now (room_of c.loop-legs.rooms) c.args.from c.args.to c.loop-legs.left ≡ Some c.in-Some.leg
next c = sym c.in_ok-leg.ensures.leg ∙ c.in-Some.is

is_leg : (c : goal.After-as_slice) → IsPourLeg c.args.grid.now (room_of c.loop-legs.rooms) c.args.from c.args.to c.loop-legs.left c.in-Some.leg
is_leg c = pour_leg-is c.args.grid.now (room_of c.loop-legs.rooms) c.args.from c.args.to c.loop-legs.left c.in-Some.leg c.next_leg.ensures.grid.is_graph (next c)

pub carry-requires : goal.carry-requires
carry-requires c =
    let can = route_can_carry c.args.grid.now (room_of c.loop-legs.rooms) c.args.from c.args.to c.in-Some.leg c.loop-legs.invariant.fit (is_leg c).fits in
    subst (CanCarry (length c.loop-legs.rooms) (room_of c.loop-legs.rooms) c.in-Some.leg.lots) (sym c.as_slice.ensures)
    (subst (λ borders. CanCarry borders (room_of c.loop-legs.rooms) c.in-Some.leg.lots c.in-Some.leg.route) (sym c.loop-legs.invariant.size) can)

pub overflow_sub-left : goal.overflow_sub-left
overflow_sub-left c = (is_leg c.before).enough

pub loop-legs-smaller : goal.loop-legs-smaller
loop-legs-smaller c =
    let l = pour_leg-is c.args.grid.now (room_of c.loop-legs.rooms) c.args.from c.args.to c.loop-legs.left c.in-Some.leg c.next_leg.ensures.grid.is_graph (sym c.in_ok-leg.ensures.leg ∙ c.in-Some.is) in
    omega (arith, l.some, l.enough)

pub loop-legs-preserved : goal.loop-legs-preserved
loop-legs-preserved c =
    let is = c.next_leg.ensures.grid.is_graph in
    let e : pour_leg c.args.grid.now (room_of c.loop-legs.rooms) c.args.from c.args.to c.loop-legs.left ≡ Some c.in-Some.leg = sym c.in_ok-leg.ensures.leg ∙ c.in-Some.is in
    let l = pour_leg-is c.args.grid.now (room_of c.loop-legs.rooms) c.args.from c.args.to c.loop-legs.left c.in-Some.leg is e in
    record {
      size = c.carry.ensures.size ∙ c.loop-legs.invariant.size;
      fit = subst (FitTogether c.args.grid.now)
          (after_leg (room_of c.loop-legs.rooms) (room_of c.carry.new.rooms) c.in-Some.leg c.as_slice.result.now c.as_slice.ensures c.carry.ensures.rooms)
          (fit-kept c.args.grid.now (room_of c.loop-legs.rooms) c.in-Some.leg c.loop-legs.invariant.fit l.fits.has_room);
      poured = subst (IsPoured c.args.grid.now (room_of c.args.rooms.now) c.args.from c.args.to c.args.most (room_of c.carry.new.rooms) (c.loop-legs.left - c.in-Some.leg.lots))
          (sym c.in_ok-push.ensures.ok)
          (one_more_over c.args.grid.now (room_of c.args.rooms.now) c.args.from c.args.to c.args.most (room_of c.loop-legs.rooms) (room_of c.carry.new.rooms) c.loop-legs.left
          c.loop-legs.legs c.in-Some.leg c.as_slice.result.now is c.loop-legs.invariant.poured e c.as_slice.ensures c.carry.ensures.rooms);
    }

pub returns-in_err-push-clause-some : goal.returns-in_err-push-clause-some
returns-in_err-push-clause-some c =
    let is = c.next_leg.ensures.grid.is_graph in
    let after = one_more_over c.args.grid.now (room_of c.args.rooms.now) c.args.from c.args.to c.args.most (room_of c.loop-legs.rooms) (room_of c.carry.new.rooms) c.loop-legs.left
    c.loop-legs.legs c.in-Some.leg c.as_slice.result.now is c.loop-legs.invariant.poured (sym c.in_ok-leg.ensures.leg ∙ c.in-Some.is) c.as_slice.ensures c.carry.ensures.rooms in
    on_err c.from_residual-in_err-push.result
    (after_some c.args.grid.now (room_of c.args.rooms.now) c.args.from c.args.to c.args.most (room_of c.carry.new.rooms) (c.loop-legs.left - c.in-Some.leg.lots)
    (c.loop-legs.legs ++ c.in-Some.leg ∷ []) is after)

pub returns-clause-legs : goal.returns-clause-legs
returns-clause-legs c =
    ended c.args.grid.now (room_of c.args.rooms.now) c.args.from c.args.to c.args.most (room_of c.loop-legs.rooms) c.loop-legs.left c.loop-legs.legs
    c.next_leg.ensures.grid.is_graph c.loop-legs.invariant.poured (sym c.in_ok-leg.ensures.leg ∙ c.in_default.is)

pub returns-clause-most : goal.returns-clause-most
returns-clause-most c =
    carried_most c.args.grid.now (room_of c.args.rooms.now) c.args.from c.args.to c.args.most (room_of c.loop-legs.rooms) c.loop-legs.left c.loop-legs.legs
    c.next_leg.ensures.grid.is_graph c.requires.to c.loop-legs.invariant.poured (sym c.in_ok-leg.ensures.leg ∙ c.in_default.is)
