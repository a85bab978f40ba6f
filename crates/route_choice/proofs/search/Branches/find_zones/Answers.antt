use Rattle.std.proofs.Common.{rules, ◌∙◌, ◌+◌, ℕ, inl, inr, false, not, get_or, sym, ap, subst, refl, arith}
use Rattle.zone_graph.specs.Rooms.{room_of}
use Rattle.cut_proof.specs.Distance.{arcs_of_distance, directed_room}
use Rattle.cut_proof.proofs.Neighbours.{neighbour_at, neighbour_within}
use Rattle.cut_proof.proofs.Searches.{spaces_in}
use Rattle.route_choice.specs.Search.{Search, search_over, no_step}
use Rattle.route_choice.proofs.FromSearch.{IsReadyFrom, IsVisitingFrom, begun_over, from_begins, from_ends, from_meets, from_started, search_found}
use Rattle.route_choice.proofs.search.Branches.find_zones.Goals as goal

pub loop-next-init : goal.loop-next-init
loop-next-init c =
    subst (λ (s : Search). IsReadyFrom c.args.grid.now (directed_room (room_of c.args.rooms.now) (not c.args.towards)) c.args.zone s 0)
    (sym (begun_over c.args.self.now c.new-queue.result c.args.zone c.requires.none c.new-queue.ensures.zones c.new-queue.ensures.count))
    (from_started c.args.grid.now (directed_room (room_of c.args.rooms.now) (not c.args.towards)) c.args.zone c.args.self.now.steps c.requires.zone
    (omega (arith, c.zones-zones.ensures.grid.few_zones, c.requires.zone)) (search rules) c.requires.within)

pub loop-neighbour-init : goal.loop-neighbour-init
loop-neighbour-init c = record {
  grid = c.zones-zones.ensures.grid;
  low =
      let there = c.loop-next.invariant.ready.searching.there c.loop-next.next c.loop-next-test.true in
      omega (arith, there, c.zones-zones.ensures.grid.few_zones);
  visiting = from_begins c.args.grid.now (directed_room (room_of c.args.rooms.now) (not c.args.towards)) c.args.zone (search_over c.loop-next.self c.loop-next.queue) c.loop-next.next (get_or c.loop-next.queue.zones c.loop-next.next 0)
      (c.unwrap-distance.result + 1) c.neighbours-neighbour-items.result.now c.loop-next.invariant c.loop-next-test.true refl
      (ap (λ n. n + 1) (ap arcs_of_distance (sym c.distance.ensures ∙ c.unwrap-distance.ensures)));
  neighbours = c.neighbours-neighbour-items.ensures.neighbours;
}

pub meet-requires-clause-border : goal.meet-requires-clause-border
meet-requires-clause-border c =
    let known = (neighbour_at c.args.grid.now _ c.neighbours-neighbour-items.result.now c.loop-neighbour.neighbour-index no_step
    c.zones-zones.ensures.grid.is_graph c.neighbours-neighbour-items.ensures.neighbours c.loop-neighbour-test.true).known in
    omega (arith, known, c.requires.size)

pub meet-requires-clause-zone : goal.meet-requires-clause-zone
meet-requires-clause-zone c =
    neighbour_within c.args.grid.now _ c.neighbours-neighbour-items.result.now c.loop-neighbour.neighbour-index no_step
    c.zones-zones.ensures.grid c.neighbours-neighbour-items.ensures.neighbours c.loop-neighbour-test.true

pub meet-requires-clause-place : goal.meet-requires-clause-place
meet-requires-clause-place c = λ free.
    spaces_in c.args.grid.now (directed_room (directed_room (room_of c.args.rooms.now) (not c.args.towards)) false) c.args.zone c.loop-neighbour.self.distances c.loop-neighbour.queue.zones c.loop-neighbour.queue.count _
    c.loop-neighbour.invariant.visiting.visiting.searching
    (neighbour_within c.args.grid.now _ c.neighbours-neighbour-items.result.now c.loop-neighbour.neighbour-index no_step
    c.zones-zones.ensures.grid c.neighbours-neighbour-items.ensures.neighbours c.loop-neighbour-test.true) free

pub loop-neighbour-preserved : goal.loop-neighbour-preserved
loop-neighbour-preserved c = record {
  grid = c.zones-zones.ensures.grid;
  low = c.loop-neighbour.invariant.low;
  visiting =
      let visited : ℕ = (get_or c.loop-next.queue.zones c.loop-next.next 0) in
      let meets = from_meets c.args.grid.now (directed_room (room_of c.args.rooms.now) (not c.args.towards)) c.args.zone (search_over c.loop-neighbour.self c.loop-neighbour.queue) c.loop-next.next visited
      (c.unwrap-distance.result + 1) c.neighbours-neighbour-items.result.now c.loop-neighbour.neighbour-index c.zones-zones.ensures.grid c.neighbours-neighbour-items.ensures.neighbours
      c.loop-neighbour-test.true c.loop-neighbour.invariant.low c.loop-neighbour.invariant.visiting in
      subst (λ (s : Search). IsVisitingFrom c.args.grid.now (directed_room (room_of c.args.rooms.now) (not c.args.towards)) c.args.zone s c.loop-next.next visited
      (c.unwrap-distance.result + 1) c.neighbours-neighbour-items.result.now (c.loop-neighbour.neighbour-index + 1))
      (sym c.meet.ensures) meets;
  neighbours = c.neighbours-neighbour-items.ensures.neighbours;
}

pub loop-next-preserved : goal.loop-next-preserved
loop-next-preserved c =
    from_ends c.args.grid.now (directed_room (room_of c.args.rooms.now) (not c.args.towards)) c.args.zone (search_over c.loop-neighbour.self c.loop-neighbour.queue) c.loop-next.next (get_or c.loop-next.queue.zones c.loop-next.next 0)
    (c.unwrap-distance.result + 1) c.neighbours-neighbour-items.result.now c.loop-neighbour.neighbour-index c.neighbours-neighbour-items.ensures.neighbours
    c.loop-neighbour-test.false c.loop-neighbour.invariant.visiting

pub returns-else-queue-zones : goal.returns-else-queue-zones
returns-else-queue-zones c =
    search_found c.args.grid.now (room_of c.args.rooms.now) c.args.zone c.args.towards (search_over c.loop-next.self c.loop-next.queue) c.loop-next.next
    c.zones-zones.ensures.grid c.requires.zone c.loop-next.invariant (inr (omega (arith, c.if-queue-zones.false, c.zones-zones.ensures.count)))

pub returns-after-loop-next : goal.returns-after-loop-next
returns-after-loop-next c =
    search_found c.args.grid.now (room_of c.args.rooms.now) c.args.zone c.args.towards (search_over c.loop-next.self c.loop-next.queue) c.loop-next.next
    c.zones-zones.ensures.grid c.requires.zone c.loop-next.invariant (inl c.loop-next-test.false)
