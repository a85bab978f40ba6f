use Rattle.std.proofs.Common.{◌≤◌, ◌-◌, get_or, subst, arith}
use Rattle.zone_graph.specs.Rooms.{room_of}
use Rattle.local_view.specs.Ways.{no_way}
use Rattle.local_view.proofs.Bringing.{brought_on, nothing_yet}
use Rattle.local_view.proofs.ways.bring_all.Goals as goal

pub loop-place-init : goal.loop-place-init
loop-place-init c = record {
  behind = omega arith;
  bringing = nothing_yet c.args.grid.now (room_of c.args.rooms.now) c.args.side c.args.load.now c.args.ways.now c.args.count c.args.loads.now c.requires.load c.requires.loads;
}

pub loop-place-preserved : goal.loop-place-preserved
loop-place-preserved c =
    let way = get_or c.args.ways.now (c.loop-place.place - 1) no_way in
    record {
      behind = omega (arith, c.loop-place.invariant.behind);
      bringing = brought_on c.args.grid.now c.zones-zones.ensures.grid (room_of c.args.rooms.now) c.args.side c.args.load.now c.loop-place.load c.args.ways.now c.args.count c.loop-place.loads c.loop-place.place
          c.requires.ways c.loop-place.invariant.behind (omega (arith, c.loop-place-test.true)) way.near way.far
          (c.requires.ways.ends (c.loop-place.place - 1) (omega (arith, c.loop-place.invariant.behind, c.loop-place-test.true))) c.in-Some.more c.in-Some.ensures.1
          c.loop-place.invariant.bringing (subst (λ n. get_or c.loop-place.load way.far 0 ≤ n) c.room_for.ensures c.if-lots-room_for.false);
    }
