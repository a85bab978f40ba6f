use Rattle.std.proofs.Common.{◌∙◌, List, ℕ, ap, arith, subst, sym, take}
use Rattle.zone_graph.specs.Graph.{border_count}
use Rattle.joint_plan.specs.Rooms.{AreRoomsOver}
use Rattle.joint_plan.proofs.LeastRooms.{all-rooms, first-rooms, more-rooms}
use Rattle.joint_plan.proofs.Lists.{IsIn-get}
use Rattle.joint_plan.proofs.period_rooms.period_rooms.Goals as goal

pub copy_from-requires : goal.copy_from-requires
copy_from-requires g c =
    c.in_ok-rooms.ensures.size ∙ ap border_count (sym (c.requires.over c.desk.result.now (IsIn-get (g.D.Desks.desks c.args.row.now) 0 c.desk.result.now c.desk.ensures)))
    ∙ sym c.rooms.ensures.size

pub loop-i-init : goal.loop-i-init
loop-i-init g c =
    let desks = g.D.Desks.desks c.args.row.now in
    let over = c.requires.over c.desk.result.now (IsIn-get desks 0 c.desk.result.now c.desk.ensures) in
    subst (λ (rooms : List (ℕ × ℕ)). AreRoomsOver c.args.grid.now (take 1 desks) rooms) (sym c.copy_from.ensures)
    (first-rooms c.args.grid.now desks c.desk.result.now c.rooms.result.now c.desk.ensures over c.rooms.ensures)

pub least_with-requires : goal.least_with-requires
least_with-requires g c =
    c.loop-i.invariant.size
    ∙ ap border_count (sym (c.requires.over c.desk-in-loop-i.result.now (IsIn-get (g.D.Desks.desks c.args.row.now) c.loop-i.i c.desk-in-loop-i.result.now c.desk-in-loop-i.ensures)))
    ∙ sym c.rooms-in-loop-i.ensures.size

pub loop-i-preserved : goal.loop-i-preserved
loop-i-preserved g c =
    let desks = g.D.Desks.desks c.args.row.now in
    let desk = c.desk-in-loop-i.result.now in
    more-rooms c.args.grid.now desks c.loop-i.i desk c.loop-i.rooms c.rooms-in-loop-i.result.now c.least_with.new.self (omega arith) c.desk-in-loop-i.ensures
    (c.requires.over desk (IsIn-get desks c.loop-i.i desk c.desk-in-loop-i.ensures)) c.loop-i.invariant c.rooms-in-loop-i.ensures c.least_with.ensures.size c.least_with.ensures.rooms

pub returns : goal.returns
returns g c = all-rooms c.args.grid.now (g.D.Desks.desks c.args.row.now) c.loop-i.i c.loop-i.rooms (omega (arith, c.len-i-end.ensures)) c.loop-i.invariant
