use Rattle.std.proofs.Common.{◌≡◌, ◌∙◌, ◌+◌, ◌∷◌, false, drop, get_or, length, sym, subst}
use Rattle.std.proofs.lemmas.List.{drop_more}
use Rattle.zone_graph.specs.declared.route.Arc.{Arc}
use Rattle.zone_graph.specs.Rooms.{room_of}
use Rattle.cut_proof.specs.Carrying.{CanCarry}
use Rattle.cut_proof.proofs.Carrying.{AreCarriedOn, others_can, others_carry}
use Rattle.cut_proof.proofs.over_routes.carry.Goals as goal

abbrev no_arc : Arc
no_arc = record { border = 0; forward = false }

pub loop-arc-preserved : goal.loop-arc-preserved
loop-arc-preserved c =
    let rest = drop (c.loop-arc.arc-index + 1) c.args.route.now in
    let arc : Arc = get_or c.args.route.now c.loop-arc.arc-index no_arc in
    let first : drop c.loop-arc.arc-index c.args.route.now ≡ arc ∷ rest = drop_more c.args.route.now c.loop-arc.arc-index no_arc c.loop-arc-test.true in
    let can = subst (CanCarry (length c.loop-arc.rooms) (room_of c.loop-arc.rooms) c.args.lots) first c.loop-arc.invariant.can in
    record {
      size = c.carry_over.ensures.size ∙ c.loop-arc.invariant.size;
      can = others_can (length c.loop-arc.rooms) (length c.carry_over.new.rooms) (room_of c.loop-arc.rooms) (room_of c.carry_over.new.rooms) c.args.lots arc rest
          (sym c.carry_over.ensures.size) c.carry_over.ensures.rooms can;
      onward = others_carry (room_of c.args.rooms.now) (room_of c.loop-arc.rooms) (room_of c.carry_over.new.rooms) (length c.loop-arc.rooms) c.args.lots c.args.route.now rest arc
          c.carry_over.ensures.rooms can
          (subst (AreCarriedOn (room_of c.args.rooms.now) (room_of c.loop-arc.rooms) c.args.lots c.args.route.now) first c.loop-arc.invariant.onward);
    }
