use Rattle.std.proofs.Common.{◌∙◌, ◌+◌, ◌<◌, ap, length, subst, sym, arith}
use Rattle.zone_graph.specs.Graph.{border_count, zone_count}
use Rattle.zone_graph.specs.Rooms.{room_of}
use Rattle.zone_graph.specs.Route.{IsIn}
use Rattle.zone_graph.proofs.Places.{at_any}
use Rattle.local_view.specs.declared.footing.Certificate.{Certificate}
use Rattle.local_view.specs.Drafts.{IsFlow}
use Rattle.local_view.specs.Footing.{certificate_at, no_certificate}
use Rattle.local_view.specs.Moved.{AreBorders, AreSameBut}
use Rattle.local_view.proofs.Footings.{AreMoved, none_moved, one_moved, stands_by}
use Rattle.local_view.proofs.footing.Footing.still_certified.Goals as goal
use Rattle.local_view.proofs.footing.Footing.still_certified.Goals.{then-is_set+then-moves, else-is_set, else-is_set-via-then-is_set+else-moves, else-is_set-via-else-is_set}

pub moves-requires : goal.moves-requires
moves-requires g c =
    let over = c.requires.0 in
    let zone = c.loop-zone.zone in
    let few = c.zones.ensures.grid.few_zones in
    let there : c.loop-zone.zone < length c.loop-zone.certificate-items = (let within = c.loop-zone-test.true in let size = c.loop-zone.auto.certificate-items in omega (arith, within, size)) in
    let slot = at_any c.loop-zone.certificate-items zone c.certificate-item.result no_certificate there in (
      few,
      (
        c.find_replaced-replaced.ensures,
        (
          subst (AreBorders c.args.grid.now) (sym c.as_slice-changed.ensures.value) c.requires.1.1.1.1.0,
          (
            λ order i. over.sized.orders_in order (subst (IsIn order) c.as_slice-old.ensures.value i),
            (
              c.requires.1.0,
              (
                c.requires.1.1.0,
                (
                  c.requires.1.1.1.0,
                  subst (IsFlow (border_count c.args.grid.now)) (sym (ap (λ (certificate : Certificate). certificate.flow) slot ∙ c.loop-zone.invariant.flows zone))
                      (subst (λ borders. IsFlow borders (certificate_at c.args.self.now.certificates.items zone).flow) (ap length over.ends_are)
                      (over.sized.flows zone (let size = c.loop-zone.invariant.size in let count = over.sized.count in omega (arith, there, size, count)))),
                ),
              ),
            ),
          ),
        ),
      ),
    )

pub loop-zone-preserved : goal.loop-zone-preserved
loop-zone-preserved g c =
    let over = c.requires.0 in
    let base = record c.args.self.now { resting = c.args.resting } in
    let zones = zone_count c.args.grid.now in
    let rooms = c.args.rooms.now in
    let orders = c.args.orders.now in
    let zone = c.loop-zone.zone in
    let items = c.loop-zone.certificate-items in
    let there : c.loop-zone.zone < length c.loop-zone.certificate-items = (let within = c.loop-zone-test.true in let size = c.loop-zone.auto.certificate-items in omega (arith, within, size)) in
    let own = at_any items zone c.certificate-item.result no_certificate there in
    elim c.if-is_set.branch [
      | then-is_set+then-moves w ↦
          let few : c.loop-zone.zone < 64 = (let most = c.zones.ensures.grid.few_zones in let size = c.loop-zone.invariant.size in let count = over.sized.count in omega (arith, there, most, size, count)) in
          subst (λ still. AreMoved zones base rooms orders (zone + 1) still c.if-is_set.certificate-items) (sym w.still-is)
          (subst (AreMoved zones base rooms orders (zone + 1) _) (sym w.certificate-items-is)
          (one_moved zones base rooms orders zone c.loop-zone.still items w.moves.new.self there few (w.moves.ensures.flow ∙ ap (λ (certificate : Certificate). certificate.flow) own)
          (stands_by zones base rooms orders zone c.args.grid.now.borders c.as_slice-old.result.now _ w.moves.new.self over.ends_are c.as_slice-old.ensures.value
          (own ∙ c.loop-zone.invariant.kept zone (omega arith)) (sym c.is_set.ensures ∙ w.if-is_set.true) (λ rows.
          w.moves.ensures.rest w.if-moves.true base.rooms zone rows
          (subst (λ list. AreSameBut c.args.grid.now list (room_of base.rooms) (room_of rooms)) (sym c.as_slice-changed.ensures.value) c.requires.1.1.1.1.1))) c.loop-zone.invariant))
      | else-is_set w ↦
          subst (λ still. AreMoved zones base rooms orders (zone + 1) still c.if-is_set.certificate-items) (sym w.still-is)
          (subst (AreMoved zones base rooms orders (zone + 1) c.loop-zone.still) (sym w.certificate-items-is)
          (elim w.else-is_set.branch [
            | else-is_set-via-then-is_set+else-moves v ↦
                subst (AreMoved zones base rooms orders (zone + 1) c.loop-zone.still) (sym v.certificate-items-is)
                (none_moved zones base rooms orders zone c.loop-zone.still items _ there (v.moves.ensures.flow ∙ ap (λ (certificate : Certificate). certificate.flow) own) c.loop-zone.invariant)
            | else-is_set-via-else-is_set v ↦
                subst (AreMoved zones base rooms orders (zone + 1) c.loop-zone.still) (sym v.certificate-items-is)
                (none_moved zones base rooms orders zone c.loop-zone.still items _ there (ap (λ (certificate : Certificate). certificate.flow) own) c.loop-zone.invariant)
          ]))
    ]
