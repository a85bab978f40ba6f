use Rattle.std.proofs.Common.{◌∙◌, ap, arith}
use Rattle.order_kinds.specs.Period.{contract_quarters}
use Rattle.zone_graph.specs.Rooms.{room_of}
use Rattle.market_model.specs.Room.{room}
use Rattle.cut_proof.specs.Cut.{crossing_room}
use Rattle.plain_refusals.proofs.Reaches.{across-most}
use Rattle.laws_of_maximum.proofs.SameRooms.{across-same}
use Rattle.plain_refusals.proofs.unfilled.room_across.Goals as goal

pub returns-clause-room : goal.returns-clause-room
returns-clause-room c =
    let order = c.args.order.now in
    c.border_bound.ensures
    ∙ ap (crossing_room c.args.grid.now (room_of c.in_ok-rooms.rooms) c.args.zones.now) c.is_buy.ensures
    ∙ across-same c.args.grid.now (room_of c.in_ok-rooms.rooms) (room c.args.events.now (contract_quarters order.contract)) c.in_ok-rooms.ensures.rooms
    order.side c.args.zones.now

pub returns-clause-most : goal.returns-clause-most
returns-clause-most c =
    let order = c.args.order.now in
    omega (
      arith,
      returns-clause-room c,
      across-most c.args.grid.now c.args.events.now (contract_quarters order.contract) order.side c.args.zones.now c.borders-borders.ensures.grid.few_borders c.requires.legal,
    )
