use Rattle.std.proofs.Common.{◌∙◌, arith}
use Rattle.zone_graph.specs.Rooms.{room_of}
use Rattle.local_view.proofs.Takers.{step_more, step_none}
use Rattle.local_view.proofs.taker.Taker.take.Goals as goal

pub overflow_sub-left : goal.overflow_sub-left
overflow_sub-left c =
    let more = step_more c.args.grid.now (room_of c.args.walk.now.rooms) c.args.self.now.side c.args.self.now.zone c.args.other c.args.most (room_of c.loop-lots.walk.rooms) (room_of c.take_next.new.walk.rooms) c.loop-lots.left c.in-Some.lots c.take_next.ensures.grid.is_graph c.loop-lots.invariant.taken
    c.loop-lots.self.side c.loop-lots.self.zone c.loop-lots.invariant.side c.loop-lots.invariant.zone c.take_next.result c.take_next.ensures.next c.in-Some.is in
    let enough = more.enough in omega (arith, enough)

pub loop-lots-smaller : goal.loop-lots-smaller
loop-lots-smaller c =
    let more = step_more c.args.grid.now (room_of c.args.walk.now.rooms) c.args.self.now.side c.args.self.now.zone c.args.other c.args.most (room_of c.loop-lots.walk.rooms) (room_of c.take_next.new.walk.rooms) c.loop-lots.left c.in-Some.lots c.take_next.ensures.grid.is_graph c.loop-lots.invariant.taken
    c.loop-lots.self.side c.loop-lots.self.zone c.loop-lots.invariant.side c.loop-lots.invariant.zone c.take_next.result c.take_next.ensures.next c.in-Some.is in
    let enough = more.enough in let some = more.some in omega (arith, enough, some)

pub loop-lots-preserved : goal.loop-lots-preserved
loop-lots-preserved c =
    let more = step_more c.args.grid.now (room_of c.args.walk.now.rooms) c.args.self.now.side c.args.self.now.zone c.args.other c.args.most (room_of c.loop-lots.walk.rooms) (room_of c.take_next.new.walk.rooms) c.loop-lots.left c.in-Some.lots c.take_next.ensures.grid.is_graph c.loop-lots.invariant.taken
    c.loop-lots.self.side c.loop-lots.self.zone c.loop-lots.invariant.side c.loop-lots.invariant.zone c.take_next.result c.take_next.ensures.next c.in-Some.is in
    record {
      walking = c.take_next.ensures.walking;
      side = c.take_next.ensures.side ∙ c.loop-lots.invariant.side;
      zone = c.take_next.ensures.zone ∙ c.loop-lots.invariant.zone;
      taken = more.taken;
    }

pub returns-clause-lots : goal.returns-clause-lots
returns-clause-lots c =
    (step_none c.args.grid.now (room_of c.args.walk.now.rooms) c.args.self.now.side c.args.self.now.zone c.args.other c.args.most (room_of c.loop-lots.walk.rooms) (room_of c.take_next.new.walk.rooms) c.loop-lots.left c.take_next.ensures.grid.is_graph c.loop-lots.invariant.taken
    c.loop-lots.self.side c.loop-lots.self.zone c.loop-lots.invariant.side c.loop-lots.invariant.zone c.take_next.result c.take_next.ensures.next c.in_default.is).lots_are

pub returns-clause-rooms : goal.returns-clause-rooms
returns-clause-rooms c =
    (step_none c.args.grid.now (room_of c.args.walk.now.rooms) c.args.self.now.side c.args.self.now.zone c.args.other c.args.most (room_of c.loop-lots.walk.rooms) (room_of c.take_next.new.walk.rooms) c.loop-lots.left c.take_next.ensures.grid.is_graph c.loop-lots.invariant.taken
    c.loop-lots.self.side c.loop-lots.self.zone c.loop-lots.invariant.side c.loop-lots.invariant.zone c.take_next.result c.take_next.ensures.next c.in_default.is).rooms
