use Rattle.std.proofs.Common.{◌∙◌, ◌≤◌, ◌==◌, sym, ap, arith, find, option_map}
use Rattle.zone_graph.specs.declared.grid.Neighbour.{Neighbour}
use Rattle.zone_graph.specs.Graph.{zone_count}
use Rattle.zone_graph.proofs.GridLemmas.{arc_between-IfSome, arc_between-every, arc_between-past, arc_of_neighbour}
use Rattle.zone_graph.proofs.grid.Grid.arc.Goals as goal

pub returns-then-from-zones-clause-arc : goal.returns-then-from-zones-clause-arc
returns-then-from-zones-clause-arc c =
    let past : zone_count c.args.self.now ≤ c.args.from = omega (arith, c.zones.ensures.count) in
    sym (arc_between-past c.args.self.now c.args.from c.args.to c.zones.ensures.grid.is_graph past)

pub returns-clause-arc : goal.returns-clause-arc
returns-clause-arc c =
    c.arc_to.ensures
    ∙ ap (λ neighbours. option_map (λ (n : Neighbour). n.arc) (find (λ (n : Neighbour). n.zone == c.args.to) neighbours)) c.neighbours.ensures.neighbours
    ∙ arc_of_neighbour c.args.self.now c.args.from c.args.to

pub returns-clause-every : goal.returns-clause-every
returns-clause-every c = λ arc known ends.
    returns-clause-arc c ∙ arc_between-every c.args.self.now c.args.from c.args.to arc c.zones.ensures.grid known ends

pub returns-clause-leads : goal.returns-clause-leads
returns-clause-leads c = arc_between-IfSome c.args.self.now c.args.from c.args.to c.arc_to.result (returns-clause-arc c)
