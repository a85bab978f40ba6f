use Rattle.std.proofs.Common.{◌∙◌, ◌+◌, ◌-◌, ◌≤◌, ◌==◌, get_or, ap, subst, sym, arith}
use Rattle.std.proofs.lemmas.Nat.Bits.{shr_and_one}
use Rattle.zone_graph.specs.Rooms.{room_of}
use Rattle.local_view.specs.Ways.{no_way, over}
use Rattle.local_view.proofs.Bringing.{ends_there}
use Rattle.local_view.proofs.Spreading.{AreSpread, none_more, one_more, root_spread, together}
use Rattle.local_view.proofs.ways.spread.Goals as goal
use Rattle.local_view.proofs.ways.spread.Goals.{then-whole-way-eq1+then-rest-room_for, else-whole-way-eq1}

pub loop-place-init : goal.loop-place-init
loop-place-init c = λ shown at_root.
    root_spread c.args.grid.now (room_of c.args.rooms.now) c.args.side shown c.args.ways.now c.args.count c.args.loads.now c.args.all c.args.root
    (omega (arith, c.requires.zone, c.zones-zones.ensures.grid.few_zones)) at_root

pub loop-place-preserved : goal.loop-place-preserved
loop-place-preserved c = λ shown at_root.
    let room = room_of c.args.rooms.now in
    let way = get_or c.args.ways.now c.loop-place.place no_way in
    let there = ends_there c.args.grid.now c.zones-zones.ensures.grid.is_graph c.args.ways.now c.args.count c.requires.ways c.loop-place.place c.loop-place-test.true in
    elim c.if-whole-way-eq1.branch [
      | then-whole-way-eq1+then-rest-room_for w ↦
          subst (AreSpread c.args.grid.now room c.args.side shown c.args.ways.now c.args.count c.args.loads.now c.args.all (c.loop-place.place + 1)) (sym w.whole-is)
          (one_more c.args.grid.now room c.args.side shown c.args.ways.now c.args.count c.args.loads.now c.args.all c.zones-zones.ensures.grid.is_graph c.requires.ways c.loop-place.place
          c.loop-place-test.true way.near way.far (c.requires.ways.ends c.loop-place.place c.loop-place-test.true) (omega (arith, there.1, c.zones-zones.ensures.grid.few_zones))
          c.loop-place.whole (c.loop-place.invariant shown at_root)
          (ap (λ n. n == 1) (sym (shr_and_one c.loop-place.whole way.near) ∙ w.if-whole-way-eq1.true))
          (subst (λ arc. c.args.all - get_or c.args.loads.now c.loop-place.place 0 ≤ room (over c.args.side arc)) w.opposite.ensures
          (omega (arith, c.saturating_sub-rest.ensures, w.if-rest-room_for.true, w.room_for.ensures))))
      | else-whole-way-eq1 w ↦
          subst (AreSpread c.args.grid.now room c.args.side shown c.args.ways.now c.args.count c.args.loads.now c.args.all (c.loop-place.place + 1)) (sym w.whole-is)
          (none_more c.args.grid.now room c.args.side shown c.args.ways.now c.args.count c.args.loads.now c.args.all c.loop-place.place c.loop-place.whole (c.loop-place.invariant shown at_root))
    ]

pub returns : goal.returns
returns c = λ shown at_root zone there is_set.
    together c.args.grid.now (room_of c.args.rooms.now) c.args.side shown c.args.ways.now c.args.count c.args.loads.now c.args.all c.loop-place.place zone
    (c.loop-place.invariant shown at_root zone there is_set)
