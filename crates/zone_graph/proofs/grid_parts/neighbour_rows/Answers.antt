use Rattle.std.proofs.Common.{◌∙◌, ◌∷◌, ◌++◌, [], sym, ap₂, arith}
use Rattle.std.proofs.lemmas.List.FromFn.{map-range_with_len_more}
use Rattle.zone_graph.specs.Grid.{neighbours_of}
use Rattle.zone_graph.specs.GridIndex.{borders_alone}
use Rattle.zone_graph.proofs.grid_parts.neighbour_rows.Goals as goal

pub loop-zone-preserved : goal.loop-zone-preserved
loop-zone-preserved c =
    c.in_ok-push.ensures.items
    ∙ ap₂ (λ rows row. rows ++ row ∷ []) c.loop-zone.invariant c.in_ok-neighbour_row.ensures
    ∙ sym (map-range_with_len_more (neighbours_of (borders_alone c.args.borders.now)) 0 c.loop-zone.zone c.loop-zone.zone (omega arith))
