use Rattle.std.proofs.Common.{sym, arith}
use Rattle.plain_orders.proofs.Listing.{few-have-room}
use Rattle.plain_orders.proofs.owning.has_desk_room.Goals as goal

pub returns-then-entered_in-lt-DESK_ROOM : goal.returns-then-entered_in-lt-DESK_ROOM
returns-then-entered_in-lt-DESK_ROOM c =
    sym (few-have-room c.args.events.now c.args.name (omega (arith, c.entered_in.ensures, c.if-entered_in-lt-DESK_ROOM.true)))
