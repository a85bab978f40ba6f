use Rattle.std.proofs.Common.{◌∙◌, ap}
use Rattle.order_kinds.specs.Period.{contract_quarters}
use Rattle.zone_graph.specs.Rooms.{room_of}
use Rattle.market_model.specs.Room.{room}
use Rattle.cut_proof.specs.Cut.{reached_zones}
use Rattle.plain_capacity.proofs.RoomLemmas.{said_again}
use Rattle.laws_of_maximum.proofs.SameRooms.{reach-same}
use Rattle.plain_refusals.proofs.unfilled.zones_in_reach.Goals as goal

pub returns-clause-zones : goal.returns-clause-zones
returns-clause-zones c =
    let order = c.args.order.now in
    said_again c.reach.result _ _
    (λ made is.
    is
    ∙ ap (reached_zones c.args.grid.now (room_of c.in_ok-rooms.rooms) order.zone) c.is_buy.ensures
    ∙ reach-same c.args.grid.now (room_of c.in_ok-rooms.rooms) (room c.args.events.now (contract_quarters order.contract)) c.in_ok-rooms.ensures.rooms
    c.zones-count.ensures.grid.is_graph order.side order.zone)
    c.reach.ensures.zones
