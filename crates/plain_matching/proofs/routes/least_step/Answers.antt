use Rattle.std.proofs.Common.{◌∙◌, sym}
use Rattle.zone_graph.specs.Rooms.{room_of}
use Rattle.plain_matching.specs.Steps.{is_step}
use Rattle.plain_matching.proofs.Steps.{none_more}
use Rattle.plain_matching.proofs.routes.least_step.Goals as goal

pub loop-border-preserved : goal.loop-border-preserved
loop-border-preserved c =
    none_more c.args.grid.now c.loop-border.border (is_step c.args.grid.now (room_of c.args.rooms.now) c.args.distances.now c.args.zone c.args.distance)
    c.over-forward.result c.over-backward.result c.over-forward.ensures c.over-backward.ensures
    (sym c.is_step.ensures ∙ c.if-is_step.false) (sym c.is_step-in-loop-border.ensures ∙ c.if-is_step-2.false) c.loop-border.invariant
