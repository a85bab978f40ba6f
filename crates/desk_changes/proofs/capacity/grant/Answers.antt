use Rattle.std.proofs.Common.{◌<◌, sym, subst}
use Rattle.zone_graph.specs.Graph.{border_count}
use Rattle.kept_hour.specs.State.{HourState, grant_of}
use Rattle.desk_changes.proofs.Opened.{grant-on}
use Rattle.desk_changes.proofs.Planning.{grant-border, opened-quiet}
use Rattle.desk_changes.proofs.capacity.grant.Goals as goal

pub parts_with_room-was-requires : goal.parts_with_room-was-requires
parts_with_room-was-requires c = grant-border c.args.hour.now c.args.arc c.args.first c.args.last c.args.lots c.requires.next

pub parts_with_room-now-requires : goal.parts_with_room-now-requires
parts_with_room-now-requires c =
    subst (λ (h : HourState). c.args.arc.border < border_count h.board.grid) (sym c.in_ok-grant.ensures.granted)
    (grant-border c.args.hour.now c.args.arc c.args.first c.args.last c.args.lots c.requires.next)

pub sweep_planned-requires-clause-quiet : goal.sweep_planned-requires-clause-quiet
sweep_planned-requires-clause-quiet c =
    opened-quiet c.args.hour.now c.grant.new.self c.args.grid.now (grant_of c.args.arc c.args.first c.args.last c.args.lots) c.args.arc.border
    c.parts_with_room-was.result c.parts_with_room-now.result c.opened_since.result c.requires.grid c.requires.unplanned c.requires.next c.requires.quiet
    (grant-on c.args.arc c.args.first c.args.last c.args.lots) c.in_ok-grant.ensures.granted c.parts_with_room-was.ensures c.parts_with_room-now.ensures c.opened_since.ensures
