use Rattle.desk_views.specs.Insides.{IsRoomOf}
use Rattle.zone_graph.specs.Rooms.{room_of}
use Rattle.desk_views.proofs.Asked.{unwritten, written}
use Rattle.desk_views.proofs.rooms.ask_border.Goals as goal

pub returns-clause-own : goal.returns-clause-own
returns-clause-own c = λ arc on.
    written arc c.args.border (room_of c.args.into.now arc) (room_of c.set.new.self arc) (room_of c.set-2.new.self arc) c.room_of.result c.room_of-2.result
    (c.set.ensures.rooms arc) (c.set-2.ensures.rooms arc) (IsRoomOf c.args.hour.now.board c.args.part)
    (c.room_of.ensures.room, c.room_of.ensures.most) (c.room_of-2.ensures.room, c.room_of-2.ensures.most) on

pub returns-clause-others : goal.returns-clause-others
returns-clause-others c = λ arc apart.
    unwritten arc c.args.border (room_of c.args.into.now arc) (room_of c.set.new.self arc) (room_of c.set-2.new.self arc) c.room_of.result c.room_of-2.result
    (c.set.ensures.rooms arc) (c.set-2.ensures.rooms arc) apart
