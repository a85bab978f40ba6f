use Rattle.std.proofs.Common.{List, subst, sym}
use Rattle.zone_graph.specs.declared.route.Arc.{Arc}
use Rattle.flow_netting.specs.Flows.{HasLotsLeft}
use Rattle.flow_netting.proofs.OneArc.{one_arc_left}
use Rattle.tests_of_types.proofs.capacity_tests.carry_over.Goals as goal

pub carry-requires-clause-room : goal.carry-requires-clause-room
carry-requires-clause-room g c =
    subst (λ (route : List Arc). HasLotsLeft c.args.flows.now.borders route (record { 0 = 15 }) c.args.lots)
    (sym c.route_over-route.ensures)
    (one_arc_left c.args.flows.now.borders c.args.arc (record { 0 = 15 }) c.args.lots c.requires.first c.requires.second c.requires.third c.requires.fourth)
