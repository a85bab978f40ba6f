use Rattle.std.proofs.Common.{◌≡◌, ◌∙◌, ◌+◌, ◌<◌, ◌≤◌, get_or, ap, subst, sym, arith}
use Rattle.zone_graph.specs.declared.route.Arc.{Arc}
use Rattle.zone_graph.specs.Pour.{opposite_arc}
use Rattle.zone_graph.specs.Rooms.{room_of}
use Rattle.cut_proof.proofs.Neighbours.{neighbour_at, neighbour_within}
use Rattle.local_view.specs.Ways.{over}
use Rattle.local_view.proofs.Joining.{AreSoFar, all_joined, no_neighbour, none_joined, not_joined, one_joined}
use Rattle.local_view.proofs.nearness.joined_with.Goals as goal
use Rattle.local_view.proofs.nearness.joined_with.Goals.{then-room_for-gt0, else-room_for-gt0}

pub loop-neighbour-init : goal.loop-neighbour-init
loop-neighbour-init c = none_joined c.args.grid.now (room_of c.args.rooms.now) c.args.side c.args.zone c.neighbours-neighbour-items.result.now

pub room_for-requires : goal.room_for-requires
room_for-requires c =
    let own = neighbour_at c.args.grid.now c.args.zone c.neighbours-neighbour-items.result.now c.loop-neighbour.neighbour-index no_neighbour
    c.neighbours-neighbour-items.ensures.grid.is_graph c.neighbours-neighbour-items.ensures.neighbours c.loop-neighbour-test.true in
    let known = own.known in
    let border = ap (λ (arc : Arc). arc.border) c.opposite.ensures in
    let size = c.requires.size in
    omega (arith, known, border, size)

pub overflow_shl-joined : goal.overflow_shl-joined
overflow_shl-joined c =
    neighbour_within c.args.grid.now c.args.zone c.neighbours-neighbour-items.result.now c.loop-neighbour.neighbour-index no_neighbour
    c.neighbours-neighbour-items.ensures.grid c.neighbours-neighbour-items.ensures.neighbours c.loop-neighbour-test.true

pub loop-neighbour-preserved : goal.loop-neighbour-preserved
loop-neighbour-preserved c =
    let items = c.neighbours-neighbour-items.result.now in
    let place = c.loop-neighbour.neighbour-index in
    let room = room_of c.args.rooms.now in
    let asked : c.room_for.result ≡ room (over c.args.side (opposite_arc (get_or items place no_neighbour).arc)) = c.room_for.ensures ∙ ap (λ arc. room (over c.args.side arc)) c.opposite.ensures in
    elim c.if-room_for-gt0.branch [
      | then-room_for-gt0 w ↦
          subst (AreSoFar c.args.grid.now room c.args.side c.args.zone items (place + 1)) (sym w.joined-is)
          (one_joined c.args.grid.now room c.args.side c.args.zone items place c.loop-neighbour.joined
          (neighbour_at c.args.grid.now c.args.zone items place no_neighbour c.neighbours-neighbour-items.ensures.grid.is_graph c.neighbours-neighbour-items.ensures.neighbours c.loop-neighbour-test.true)
          (neighbour_within c.args.grid.now c.args.zone items place no_neighbour c.neighbours-neighbour-items.ensures.grid c.neighbours-neighbour-items.ensures.neighbours c.loop-neighbour-test.true)
          (subst (λ n. 0 < n) asked w.if-room_for-gt0.true) c.loop-neighbour.invariant)
      | else-room_for-gt0 w ↦
          subst (AreSoFar c.args.grid.now room c.args.side c.args.zone items (place + 1)) (sym w.joined-is)
          (not_joined c.args.grid.now room c.args.side c.args.zone items place c.loop-neighbour.joined (subst (λ n. n ≤ 0) asked w.if-room_for-gt0.false) c.loop-neighbour.invariant)
    ]

pub returns : goal.returns
returns c =
    all_joined c.args.grid.now (room_of c.args.rooms.now) c.args.side c.args.zone c.neighbours-neighbour-items.result.now c.loop-neighbour.neighbour-index c.loop-neighbour.joined
    c.neighbours-neighbour-items.ensures.neighbours (let end = c.loop-neighbour-test.false in omega (arith, end)) c.loop-neighbour.invariant
