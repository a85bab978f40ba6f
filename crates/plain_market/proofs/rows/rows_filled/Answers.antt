use Rattle.std.proofs.Common.{◌≡◌, ◌∙◌, Some, length, refl, sym, subst, arith}
use Rattle.zone_graph.specs.Pour.{room_after}
use Rattle.zone_graph.specs.Rooms.{room_of}
use Rattle.cut_proof.specs.Carrying.{CanCarry, FitTogether}
use Rattle.cut_proof.proofs.Carrying.{after_leg, fit-kept, route_can_carry}
use Rattle.laws_of_rows.specs.Depth.{AreInZones, buyer_zone, depth_of, next_fill, seller_zone}
use Rattle.laws_of_rows.proofs.Fills.{all-so_far, can_add, carried_by, depth-after, next_fill-is, so_far-at, taken-in_zones}
use Rattle.plain_market.proofs.rows.rows_filled.Goals as goal

pub carry-requires : goal.carry-requires
carry-requires c =
    let f = next_fill-is c.args.grid.now c.args.side c.args.zone (depth_of c.loop-rows.makers c.loop-rows.rooms c.loop-rows.left) c.in-Some.fill
    c.next_fill.ensures.grid.is_graph (sym c.in_ok-fill.ensures.fill ∙ c.in-Some.is) in
    let can = route_can_carry c.args.grid.now (room_of c.loop-rows.rooms) (seller_zone c.args.side c.args.zone f.with) (buyer_zone c.args.side c.args.zone f.with)
    (carried_by c.in-Some.fill) c.loop-rows.invariant.fit f.fits in
    subst (CanCarry (length c.loop-rows.rooms) (room_of c.loop-rows.rooms) c.in-Some.fill.lots) (sym c.as_slice.ensures)
    (subst (λ borders. CanCarry borders (room_of c.loop-rows.rooms) c.in-Some.fill.lots c.in-Some.fill.route) (sym c.loop-rows.invariant.size) can)

pub overflow_sub-left : goal.overflow_sub-left
overflow_sub-left c =
    (next_fill-is c.args.grid.now c.args.side c.args.zone (depth_of c.loop-rows.makers c.loop-rows.rooms c.loop-rows.left) c.in-Some.fill
    c.next_fill.ensures.grid.is_graph (sym c.in_ok-fill.ensures.fill ∙ c.in-Some.is)).enough

pub add-requires : goal.add-requires
add-requires c =
    can_add c.args.grid.now c.args.side c.args.zone (depth_of c.args.makers.now c.args.rooms 4294967295) (depth_of c.loop-rows.makers c.loop-rows.rooms c.loop-rows.left)
    c.loop-rows.rows.items c.in-Some.fill c.next_fill.ensures.grid.is_graph c.loop-rows.invariant.so_far (sym c.in_ok-fill.ensures.fill ∙ c.in-Some.is)

pub loop-rows-smaller : goal.loop-rows-smaller
loop-rows-smaller c =
    let f = next_fill-is c.args.grid.now c.args.side c.args.zone (depth_of c.loop-rows.makers c.loop-rows.rooms c.loop-rows.left) c.in-Some.fill
    c.next_fill.ensures.grid.is_graph (sym c.in_ok-fill.ensures.fill ∙ c.in-Some.is) in
    omega (arith, f.some, f.enough)

pub loop-rows-preserved : goal.loop-rows-preserved
loop-rows-preserved c =
    let next : next_fill c.args.grid.now c.args.side c.args.zone (depth_of c.loop-rows.makers c.loop-rows.rooms c.loop-rows.left) ≡ Some c.in-Some.fill =
    sym c.in_ok-fill.ensures.fill ∙ c.in-Some.is in
    let f = next_fill-is c.args.grid.now c.args.side c.args.zone (depth_of c.loop-rows.makers c.loop-rows.rooms c.loop-rows.left) c.in-Some.fill c.next_fill.ensures.grid.is_graph next in
    let over : room_after (room_of c.loop-rows.rooms) (carried_by c.in-Some.fill) ≡ room_of c.carry.new.rooms =
    after_leg (room_of c.loop-rows.rooms) (room_of c.carry.new.rooms) (carried_by c.in-Some.fill) c.as_slice.result.now c.as_slice.ensures c.carry.ensures.rooms in
    record {
      size = c.carry.ensures.size ∙ c.loop-rows.invariant.size;
      fit = subst (FitTogether c.args.grid.now) over (fit-kept c.args.grid.now (room_of c.loop-rows.rooms) (carried_by c.in-Some.fill) c.loop-rows.invariant.fit f.fits.has_room);
      makers = subst (AreInZones c.args.grid.now) (sym c.take_of.ensures)
          (taken-in_zones c.args.grid.now c.in-Some.fill.maker c.in-Some.fill.lots c.loop-rows.makers c.loop-rows.invariant.makers);
      so_far = so_far-at c.args.grid.now c.args.side c.args.zone (depth_of c.args.makers.now c.args.rooms 4294967295)
          (depth_of c.loop-rows.makers c.loop-rows.rooms c.loop-rows.left) _ c.loop-rows.rows.items _ c.in-Some.fill c.next_fill.ensures.grid.is_graph
          c.loop-rows.invariant.so_far next
          (depth-after c.loop-rows.makers _ c.loop-rows.rooms c.carry.new.rooms c.loop-rows.left _ c.in-Some.fill c.as_slice.result.now c.take_of.ensures c.as_slice.ensures c.carry.ensures.rooms refl)
          c.in_ok-add.ensures;
    }

pub returns : goal.returns
returns c =
    all-so_far c.args.grid.now c.args.side c.args.zone (depth_of c.args.makers.now c.args.rooms 4294967295) (depth_of c.loop-rows.makers c.loop-rows.rooms c.loop-rows.left)
    c.loop-rows.rows.items c.loop-rows.invariant.so_far (sym c.in_ok-fill.ensures.fill ∙ c.in_default.is)
