use Rattle.std.proofs.Common.{◌≡◌, ◌==◌, ◌&&◌, ℕ, false, not, ◌∙◌, ap, arith}
use Rattle.std.proofs.lemmas.Bool.Decides.{nat_tests}
use Rattle.std.proofs.lemmas.List.{take_more_same}
use Rattle.zone_graph.specs.Graph.{arc_ends}
use Rattle.local_view.proofs.still_standing.are_borders.Goals as goal

same_pair : (a b : ℕ × ℕ) → false ≡ not ((a.0 == b.0) && (a.1 == b.1)) → a ≡ b
same_pair (a, x) (b, y) same =
    let first : a ≡ b = grind (arith, nat_tests) in
    let second : x ≡ y = grind (arith, nat_tests) in
    cc

pub loop-border-preserved : goal.loop-border-preserved
loop-border-preserved c =
    take_more_same c.args.ends.now c.args.grid.now.borders c.loop-border.border (0, 0) (omega arith) (omega arith) c.loop-border.invariant
    (same_pair _ _ c.if-ne.ensures ∙ c.ends.ensures.ends ∙ ap (arc_ends c.args.grid.now) c.over.ensures)
