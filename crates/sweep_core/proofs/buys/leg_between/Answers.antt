use Rattle.zone_graph.specs.Route.{IsIn}
use Rattle.std.proofs.Common.{subst}
use Rattle.sweep_core.proofs.buys.leg_between.Goals as goal

pub carried-lots-requires : goal.carried-lots-requires
carried-lots-requires c = record { arcs = λ arc i. c.requires arc (subst (IsIn arc) c.as_slice.ensures i) }
