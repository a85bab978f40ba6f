use Rattle.std.proofs.Common.{◌∙◌}
use Rattle.zone_graph.specs.Rooms.{room_of}
use Rattle.local_view.proofs.Takers.{taker-anew}
use Rattle.local_view.proofs.taker.Taker.search.Goals as goal

pub returns-clause-knows : goal.returns-clause-knows
returns-clause-knows c =
    taker-anew c.args.grid.now (room_of c.args.rooms.now) c.args.self.now.side c.args.self.now.zone c.new-self.result
    c.requires.zone c.new-self.ensures.fresh c.new-self.ensures.zone (c.new-self.ensures.towards ∙ c.is_sell.ensures)
