use Rattle.std.proofs.Common.{◌∙◌, sym}
use Rattle.std.proofs.lemmas.List.{get_or-set_other}
use Rattle.zone_graph.specs.Rooms.{room_of}
use Rattle.local_view.proofs.Bringing.{all_brought}
use Rattle.local_view.proofs.ways.whole_around.Goals as goal

pub returns-clause-whole : goal.returns-clause-whole
returns-clause-whole c = λ zone there is_set.
    c.spread.ensures c.args.shown.now
    (all_brought c.args.grid.now (room_of c.args.rooms.now) c.args.side c.args.root c.args.shown.now c.bring_all.new.load c.lead_from.new.self.list c.lead_from.new.self.count c.bring_all.new.loads c.requires.zone
    c.in_ok-bring_all.ensures.brought
    (λ other known apart. sym (get_or-set_other c.bring_all.new.load c.args.root other 0 0 apart) ∙ c.has_lots.ensures c.if-has_lots.false other))
    zone there is_set
