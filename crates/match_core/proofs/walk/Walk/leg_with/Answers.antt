use Rattle.std.proofs.Common.{subst}
use Rattle.zone_graph.specs.Route.{IsIn}
use Rattle.match_core.proofs.walk.Walk.leg_with.Goals as goal

pub carried-requires : goal.carried-requires
carried-requires c = record { arcs = λ arc i. c.requires.arcs arc (subst (IsIn arc) c.as_slice.ensures i) }
