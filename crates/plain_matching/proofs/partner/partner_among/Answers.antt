use Rattle.std.proofs.Common.{◌∙◌}
use Rattle.zone_graph.specs.Rooms.{room_of}
use Rattle.plain_matching.specs.Over.{other_line}
use Rattle.plain_matching.proofs.Zones.{found-partner}
use Rattle.plain_matching.proofs.partner.partner_among.Goals as goal

pub returns : goal.returns
returns c =
    c.first_among.ensures
    ∙ found-partner c.args.grid.now (room_of c.args.rooms.now) c.distances_of.result (other_line c.args.orders.now c.args.own.now) c.args.own.now
    c.distances_of.ensures.grid.is_graph c.distances_of.ensures.distances
