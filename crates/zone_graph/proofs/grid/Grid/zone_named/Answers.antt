use Rattle.std.proofs.Common.{◌∙◌, ap, subst}
use Rattle.zone_graph.specs.Grid.{IsGrid, number_of_zone}
use Rattle.zone_graph.proofs.GridLemmas.{number_of_zone-IfSome, number_of_zone-every}
use Rattle.zone_graph.proofs.grid.Grid.zone_named.Goals as goal

pub returns-clause-number : goal.returns-clause-number
returns-clause-number c =
    c.copied.ensures ∙ c.get.ensures.value ∙ c.self.invariant.zones_by_name c.args.name.now
    ∙ ap (λ graph. number_of_zone graph c.args.name.now) c.self.view_is

pub returns-clause-every : goal.returns-clause-every
returns-clause-every c = λ zone known named.
    returns-clause-number c ∙ number_of_zone-every c.args.self.now c.args.name.now zone (subst IsGrid c.self.view_is c.self.invariant.is_grid) known named

pub returns-clause-named : goal.returns-clause-named
returns-clause-named c = number_of_zone-IfSome c.args.self.now c.args.name.now c.copied.result (returns-clause-number c)
