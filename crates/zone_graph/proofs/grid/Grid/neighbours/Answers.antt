use Rattle.std.proofs.Common.{◌≡◌, ◌∙◌, ◌<◌, length, get_or, ap, arith}
use Rattle.std.proofs.lemmas.List.FromFn.{get_or-map-range_with_len, length-map-range_with_len}
use Rattle.zone_graph.specs.Graph.{zone_count}
use Rattle.zone_graph.specs.Grid.{neighbours_of}
use Rattle.zone_graph.proofs.grid.Grid.neighbours.Goals as goal

pub index-requires : goal.index-requires
index-requires c =
    let rows : length c.self.inside.rows.items ≡ zone_count c.args.self.now =
    ap length c.self.invariant.neighbours_by_zone
    ∙ length-map-range_with_len (neighbours_of (record { zones = c.self.inside.names; borders = c.self.inside.pairs })) 0 (length c.self.inside.names)
    ∙ ap zone_count c.self.view_is in
    omega arith

pub returns-clause-neighbours : goal.returns-clause-neighbours
returns-clause-neighbours c =
    let within : c.args.zone < length c.self.inside.names = let count = ap zone_count c.self.view_is in omega (arith, count) in
    c.as_slice.ensures ∙ c.index.ensures
    ∙ ap (λ rows. get_or rows c.args.zone c.index.result.now) c.self.invariant.neighbours_by_zone
    ∙ get_or-map-range_with_len (neighbours_of (record { zones = c.self.inside.names; borders = c.self.inside.pairs })) 0 (length c.self.inside.names)
    c.args.zone c.args.zone c.index.result.now within (omega arith)
    ∙ ap (λ graph. neighbours_of graph c.args.zone) c.self.view_is
