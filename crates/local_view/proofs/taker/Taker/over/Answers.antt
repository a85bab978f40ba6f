use Rattle.std.proofs.Common.{◌∙◌}
use Rattle.zone_graph.specs.Rooms.{room_of}
use Rattle.local_view.proofs.Takers.{taker-anew}
use Rattle.local_view.proofs.taker.Taker.over.Goals as goal

pub returns-clause-knows : goal.returns-clause-knows
returns-clause-knows c =
    taker-anew c.args.grid.now (room_of c.args.rooms.now) c.args.side c.args.zone c.new.result
    c.requires.zone c.new.ensures.fresh c.new.ensures.zone (c.new.ensures.towards ∙ c.is_sell.ensures)
