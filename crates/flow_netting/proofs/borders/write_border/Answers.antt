use Rattle.std.proofs.Common.{◌∙◌, ◌==◌, ap, ap₂, sym, if◌then◌else◌, eq-eqb}
use Rattle.zone_graph.specs.Pour.{same_arc}
use Rattle.zone_graph.specs.Rooms.{room_of}
use Rattle.zone_graph.proofs.Arcs.{two_rooms}
use Rattle.flow_netting.specs.Border.{set_room}
use Rattle.flow_netting.proofs.RoomLemmas.{two_rooms-most}
use Rattle.flow_netting.proofs.borders.write_border.Goals as goal

pub returns-clause-rooms : goal.returns-clause-rooms
returns-clause-rooms c = λ arc.
    two_rooms (c.args.number == arc.border) arc.forward
    (room_of c.args.into.now arc) (room_of c.set.new.self arc) (room_of c.set-2.new.self arc)
    (λ forward. set_room c.args.is_open c.args.border.now forward c.args.set)
    (c.set.ensures.rooms arc ∙ ap₂ (λ a room. if same_arc a arc then room else room_of c.args.into.now arc) c.over.ensures c.room-forward.ensures.room)
    (c.set-2.ensures.rooms arc ∙ ap₂ (λ a room. if same_arc a arc then room else room_of c.set.new.self arc) c.over-2.ensures c.room-backward.ensures.room)

pub returns-clause-most : goal.returns-clause-most
returns-clause-most c = λ arc border.
    two_rooms-most (c.args.number == arc.border) arc.forward
    (room_of c.args.into.now arc) (room_of c.set.new.self arc) (room_of c.set-2.new.self arc) c.room-forward.result c.room-backward.result 2000000
    (eq-eqb c.args.number arc.border (sym border)) c.room-forward.ensures.most c.room-backward.ensures.most
    (c.set.ensures.rooms arc ∙ ap (λ a. if same_arc a arc then c.room-forward.result else room_of c.args.into.now arc) c.over.ensures)
    (c.set-2.ensures.rooms arc ∙ ap (λ a. if same_arc a arc then c.room-backward.result else room_of c.set.new.self arc) c.over-2.ensures)
