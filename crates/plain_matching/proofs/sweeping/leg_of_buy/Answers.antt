use Rattle.std.proofs.Common.{sym}
use Rattle.zone_graph.specs.Rooms.{room_of}
use Rattle.plain_matching.proofs.Here.{no_partner-over}
use Rattle.plain_matching.proofs.Zones.{no_partner, partner-known}
use Rattle.plain_matching.proofs.sweeping.leg_of_buy.Goals as goal

pub resting_trade-requires-clause-sell : goal.resting_trade-requires-clause-sell
resting_trade-requires-clause-sell c =
    partner-known c.args.grid.now (room_of c.args.rooms.now) c.args.sells.now c.args.buy.now c.in-Some.sell c.requires.sells (sym c.in-Some.ensures)

pub returns-then-not-crosses_best : goal.returns-then-not-crosses_best
returns-then-not-crosses_best c =
    no_partner-over c.args.grid.now (room_of c.args.rooms.now) c.args.sells.now c.args.buy.now
    (no_partner c.args.grid.now (room_of c.args.rooms.now) c.args.sells.now c.args.buy.now
    (c.requires.best.none c.args.buy.now c.requires.side (sym c.if-not-crosses_best.ensures)))
