use Rattle.std.proofs.Common.{◌<◌, List, length, sym, subst}
use Rattle.zone_graph.specs.declared.route.Arc.{Arc}
use Rattle.zone_graph.specs.Route.{IsIn}
use Rattle.desk_entering.specs.Opening.{IsWithin}
use Rattle.desk_entering.proofs.opening.opens.Goals as goal

pub may_open-requires : goal.may_open-requires
may_open-requires c =
    let borders = length c.args.rooms.now in
    subst (λ (route : List Arc). (arc : Arc) → IsIn arc route → arc.border < borders) (sym c.as_slice.ensures) (subst (IsWithin borders) c.in-Leg.is c.requires)
