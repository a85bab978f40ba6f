use Rattle.std.proofs.Common.{◌≡◌, subst, arith}
use Rattle.zone_graph.specs.Graph.{IsGraph}
use Rattle.desk_market.proofs.Rooms.{rooms-few}
use Rattle.desk_market.proofs.playing.market_of.Goals as goal

pub new-requires-clause-of_day : goal.new-requires-clause-of_day
new-requires-clause-of_day c =
    let rooms = rooms-few c.args.session.now c.requires.session in
    let hours = c.requires.session.most_hours in
    record {
      is_setup = subst IsGraph c.in_ok-grid.ensures c.zones-zones.ensures.grid.is_graph;
      hours = omega (arith, hours);
      few = omega (arith, rooms);
    }
