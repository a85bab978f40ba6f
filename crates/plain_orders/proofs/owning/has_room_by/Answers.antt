use Rattle.std.proofs.Common.{sym, arith}
use Rattle.plain_orders.proofs.Listing.{few-have-room}
use Rattle.plain_orders.proofs.owning.has_room_by.Goals as goal

pub returns-then-places-le-DESK_ROOM : goal.returns-then-places-le-DESK_ROOM
returns-then-places-le-DESK_ROOM c =
    let size = c.requires.sums.size in
    let long = c.args.sums.now.tallies.ok.0 in
    sym (few-have-room c.args.events.now c.args.name (omega (arith, size, long, c.if-places-le-DESK_ROOM.true, c.len-places.ensures)))
