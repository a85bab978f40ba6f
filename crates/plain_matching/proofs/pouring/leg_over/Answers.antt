use Rattle.std.proofs.Common.{subst}
use Rattle.zone_graph.specs.Route.{IsIn}
use Rattle.plain_matching.proofs.pouring.leg_over.Goals as goal

pub carried-lots-requires : goal.carried-lots-requires
carried-lots-requires c = record { arcs = λ arc i. c.requires.arcs arc (subst (λ route. IsIn arc route) c.as_slice.ensures i) }
