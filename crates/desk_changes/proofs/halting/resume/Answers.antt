use Rattle.std.proofs.Common.{◌<◌, sym, subst}
use Rattle.zone_graph.specs.Graph.{border_count}
use Rattle.laws_of_hours.proofs.FlowChanges.{resumptions_fit}
use Rattle.kept_hour.specs.State.{HourState, resumption_of}
use Rattle.desk_changes.proofs.Opened.{resumption-on}
use Rattle.desk_changes.proofs.Planning.{opened-quiet}
use Rattle.desk_changes.proofs.halting.resume.Goals as goal

pub parts_with_room-was-requires : goal.parts_with_room-was-requires
parts_with_room-was-requires c = resumptions_fit c.args.hour.now.board.grid c.args.hour.now.board.hour c.args.hour.now.board.events c.args.border c.args.first c.args.last c.requires.next

pub parts_with_room-now-requires : goal.parts_with_room-now-requires
parts_with_room-now-requires c =
    subst (λ (h : HourState). c.args.border < border_count h.board.grid) (sym c.in_ok-resume.ensures.resumed)
    (resumptions_fit c.args.hour.now.board.grid c.args.hour.now.board.hour c.args.hour.now.board.events c.args.border c.args.first c.args.last c.requires.next)

pub sweep_planned-requires-clause-quiet : goal.sweep_planned-requires-clause-quiet
sweep_planned-requires-clause-quiet c =
    opened-quiet c.args.hour.now c.resume.new.self c.args.grid.now (resumption_of c.args.border c.args.first c.args.last) c.args.border
    c.parts_with_room-was.result c.parts_with_room-now.result c.opened_since.result c.requires.grid c.requires.unplanned c.requires.next c.requires.quiet
    (resumption-on c.args.border c.args.first c.args.last) c.in_ok-resume.ensures.resumed c.parts_with_room-was.ensures c.parts_with_room-now.ensures c.opened_since.ensures
