use Rattle.std.proofs.Common.{◌∙◌, [], ap, get_or, subst, sym}
use Rattle.zone_graph.specs.Graph.{border_count}
use Rattle.desk_views.specs.Moved.{AreStillBut}
use Rattle.desk_views.proofs.Asked.{still-but}
use Rattle.desk_views.proofs.rooms.moved_if.Goals as goal

pub moved_zones-requires-clause-old_size : goal.moved_zones-requires-clause-old_size
moved_zones-requires-clause-old_size c = λ part low. (c.requires.settled part low).size ∙ ap border_count (sym c.requires.grid)

pub moved_zones-requires-clause-still : goal.moved_zones-requires-clause-still
moved_zones-requires-clause-still c = λ part low.
    subst (λ graph. AreStillBut graph c.changed_borders-changed.result (get_or c.args.rooms.now part []) (get_or c.ask_rooms.new.into part [])) (sym c.requires.grid)
    (still-but c.args.hour.now c.changed_borders-changed.result c.changed_borders-changed.ensures part low (get_or c.args.rooms.now part []) (c.requires.settled part low)
    (get_or c.ask_rooms.new.into part []) (c.ask_rooms.ensures.rooms part low))
