use Rattle.std.proofs.Common.{◌<◌, IfSome, length, subst}
use Rattle.zone_graph.specs.declared.route.Arc.{Arc}
use Rattle.zone_graph.specs.Route.{IsIn}
use Rattle.market_model.specs.declared.event.Leg.{Leg}
use Rattle.sweep_core.proofs.parts.with_opening.Goals as goal

pub may_open-opens-requires : goal.may_open-opens-requires
may_open-opens-requires c =
    let known = subst (λ o. IfSome o (λ (leg : Leg). (arc : Arc) → IsIn arc leg.route → arc.border < length c.args.rooms.now)) c.in_ok-leg.was c.requires in
    λ arc i. known arc (subst (IsIn arc) c.as_slice.ensures i)
