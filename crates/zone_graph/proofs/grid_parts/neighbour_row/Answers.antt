use Rattle.std.proofs.Common.{◌∙◌, ◌++◌, get_or, sym, ap}
use Rattle.zone_graph.specs.GridIndex.{borders_alone, neighbours_over}
use Rattle.zone_graph.proofs.GridRows.{first_neighbours_more}
use Rattle.zone_graph.proofs.grid_parts.neighbour_row.Goals as goal

pub loop-border-preserved : goal.loop-border-preserved
loop-border-preserved c =
    c.in_ok-push_neighbours.ensures
    ∙ ap (λ row. row ++ neighbours_over c.args.zone c.loop-border.border (get_or c.args.borders.now c.loop-border.border (0, 0))) c.loop-border.invariant
    ∙ sym (first_neighbours_more (borders_alone c.args.borders.now) c.args.zone c.loop-border.border)
