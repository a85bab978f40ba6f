use Rattle.std.proofs.Common.{◌∙◌, ◌^◌, ◌<◌, ap, sym, arith}
use Rattle.zone_graph.specs.Graph.{zone_count}
use Rattle.zone_graph.specs.Rooms.{room_of}
use Rattle.local_view.specs.Kept.{line_of}
use Rattle.local_view.specs.Nearness.{near_count}
use Rattle.desk_views.specs.Desk.{views_with_made}
use Rattle.desk_views.proofs.Bits.{none_near}
use Rattle.desk_views.proofs.Coming.{next-coming, still-coming}
use Rattle.desk_views.proofs.Outcomes.{on_ok}
use Rattle.desk_views.proofs.Rows.{same-zones}
use Rattle.desk_views.proofs.Sums.{made-still}
use Rattle.desk_views.proofs.refreshing.refresh_line.Goals as goal

pub returns-then-touched-eq0-clause-next : goal.returns-then-touched-eq0-clause-next
returns-then-touched-eq0-clause-next c =
    still-coming c.args.hour.now.board c.requires.board c.args.part c.args.side c.args.touched c.args.rooms.now (line_of c.args.views.now c.args.part c.args.side) c.requires.near
    c.requires.none_next c.if-touched-eq0.true

pub returns-then-touched-eq0-clause-made : goal.returns-then-touched-eq0-clause-made
returns-then-touched-eq0-clause-made c =
    let low : c.args.views.now.made < 2 ^ 64 = omega (arith, c.made.ensures) in
    made-still c.args.views.now.made (near_count c.args.grid.now (room_of c.args.rooms.now) c.args.side c.args.touched) low
    (ap (near_count c.args.grid.now (room_of c.args.rooms.now) c.args.side) c.if-touched-eq0.true ∙ none_near c.args.grid.now (room_of c.args.rooms.now) c.args.side)

pub returns-clause-next : goal.returns-clause-next
returns-clause-next c =
    on_ok c.refresh_near.result
    (next-coming c.args.hour.now.board c.args.part c.args.side c.refresh_near.new.self.zones (line_of c.refresh_near.new.self c.args.part c.args.side)
    (ap zone_count (sym c.requires.grid) ∙ c.requires.zones
    ∙ sym (same-zones c.refresh_near.new.self (views_with_made c.args.views.now c.refresh_near.new.self.made) c.refresh_near.ensures.kept)))
    c.refresh_near.ensures.next

pub returns-clause-still : goal.returns-clause-still
returns-clause-still c = λ zero. absurd (c.if-touched-eq0.false zero)
