use Rattle.std.proofs.Common.{◌≡◌, ◌<◌, ◌≤◌, ◌+◌, Bool, ◌⊎◌, inl, inr, ◌∙◌, ℕ, replicate, set, get_or, Option, Some, None, is_some, true, false, not, sym, ap, subst, refl, arith}
use Rattle.zone_graph.specs.declared.grid.Neighbour.{Neighbour}
use Rattle.zone_graph.specs.Pour.{opposite_arc}
use Rattle.cut_proof.specs.declared.search.Search.{Search}
use Rattle.zone_graph.specs.Rooms.{room_of}
use Rattle.zone_graph.proofs.Places.{at_any}
use Rattle.cut_proof.specs.Distance.{arcs_of_distance, directed_room}
use Rattle.cut_proof.proofs.Neighbours.{neighbour_at, neighbour_within}
use Rattle.cut_proof.proofs.Searches.{ended, IsReady, IsVisiting, spaces_in, started, visit_begins, visit_ends, visit_goes_on, visit_skips}
use Rattle.cut_proof.proofs.search.distances.Goals as goal
use Rattle.cut_proof.proofs.search.distances.Goals.{then-room-gt0+then-is_none, else-room-gt0, else-room-gt0-via-then-room-gt0+else-is_none, else-room-gt0-via-else-room-gt0}

pub new-search-requires : goal.new-search-requires
new-search-requires c = omega (arith, c.zones-zones.ensures.grid.few_zones, c.requires.zone)

pub loop-next-init : goal.loop-next-init
loop-next-init c =
    let start = started c.args.grid.now (directed_room (room_of c.args.rooms.now) c.args.towards) c.args.zone c.requires.zone (omega (arith, c.zones-zones.ensures.grid.few_zones, c.requires.zone)) in
    let e = c.new-search.ensures in
    subst (λ n. IsReady c.args.grid.now (directed_room (room_of c.args.rooms.now) c.args.towards) c.args.zone c.new-search.result.distances c.new-search.result.zones n 0) (sym e.count)
    (subst (λ zones. IsReady c.args.grid.now (directed_room (room_of c.args.rooms.now) c.args.towards) c.args.zone c.new-search.result.distances zones 1 0) (sym e.zones)
    (subst (λ distances. IsReady c.args.grid.now (directed_room (room_of c.args.rooms.now) c.args.towards) c.args.zone distances (set (replicate 64 0) 0 c.args.zone) 1 0) (sym e.distances) start))

abbrev no_neighbour : Neighbour
no_neighbour = record { arc = record { border = 0; forward = false }; zone = 0 }

pub loop-neighbour-init : goal.loop-neighbour-init
loop-neighbour-init c = record {
  grid = c.zones-zones.ensures.grid;
  neighbours = c.neighbours-neighbour-items.ensures.neighbours;
  visiting = visit_begins c.args.grid.now (directed_room (room_of c.args.rooms.now) c.args.towards) c.args.zone c.loop-next.search.distances c.loop-next.search.zones c.loop-next.search.count
      c.loop-next.next (get_or c.loop-next.search.zones c.loop-next.next 0) (c.unwrap-distance.result + 1) c.neighbours-neighbour-items.result.now
      c.loop-next.invariant c.loop-next-test.true refl (ap (λ n. n + 1) (ap arcs_of_distance (sym c.distance.ensures ∙ c.unwrap-distance.ensures)));
}

pub room_over-room-requires : goal.room_over-room-requires
room_over-room-requires c =
    let known = (neighbour_at c.args.grid.now _ c.neighbours-neighbour-items.result.now c.loop-neighbour.neighbour-index no_neighbour
    c.zones-zones.ensures.grid.is_graph c.neighbours-neighbour-items.ensures.neighbours c.loop-neighbour-test.true).known in
    omega (arith, known, c.requires.size)

pub distance-requires-then-room-gt0 : goal.distance-requires-then-room-gt0
distance-requires-then-room-gt0 c =
    neighbour_within c.args.grid.now _ c.neighbours-neighbour-items.result.now c.loop-neighbour.neighbour-index no_neighbour
    c.zones-zones.ensures.grid c.neighbours-neighbour-items.ensures.neighbours c.loop-neighbour-test.true

pub add-requires-clause-zone : goal.add-requires-clause-zone
add-requires-clause-zone c =
    neighbour_within c.args.grid.now _ c.neighbours-neighbour-items.result.now c.loop-neighbour.neighbour-index no_neighbour
    c.zones-zones.ensures.grid c.neighbours-neighbour-items.ensures.neighbours c.loop-neighbour-test.true

-- what is not some is none
none_from : (o : Option ℕ) (b : Bool) → is_some o ≡ not b → b ≡ true → o ≡ None
none_from None b e h = refl
none_from (Some x) b e h = let absent : true ≡ false = e ∙ ap not h in cc

pub add-requires-clause-place : goal.add-requires-clause-place
add-requires-clause-place c =
    let within = neighbour_within c.args.grid.now _ c.neighbours-neighbour-items.result.now c.loop-neighbour.neighbour-index no_neighbour
    c.zones-zones.ensures.grid c.neighbours-neighbour-items.ensures.neighbours c.loop-neighbour-test.true in
    spaces_in c.args.grid.now (directed_room (room_of c.args.rooms.now) c.args.towards) c.args.zone c.loop-neighbour.search.distances c.loop-neighbour.search.zones c.loop-neighbour.search.count _
    c.loop-neighbour.invariant.visiting.searching within
    (sym c.distance-then-room-gt0.ensures ∙ none_from c.distance-then-room-gt0.result c.is_none.result c.is_none.ensures c.if-is_none.true)

has_room : (m n : ℕ) → m ≡ n → 0 < m → 0 < n
has_room m n e h = subst (λ k. 0 < k) e h

no_room : (m n : ℕ) → m ≡ n → m ≤ 0 → n ≤ 0
no_room m n e h = subst (λ k. k ≤ 0) e h

pub loop-neighbour-preserved : goal.loop-neighbour-preserved
loop-neighbour-preserved c = record {
  grid = c.zones-zones.ensures.grid;
  neighbours = c.neighbours-neighbour-items.ensures.neighbours;
  visiting =
      let neighbour : Neighbour = get_or c.neighbours-neighbour-items.result.now c.loop-neighbour.neighbour-index no_neighbour in
      let skips = λ (same : c.if-room-gt0.search ≡ c.loop-neighbour.search) (none : (directed_room (room_of c.args.rooms.now) c.args.towards (opposite_arc neighbour.arc) ≤ 0) ⊎ (is_some (get_or c.loop-neighbour.search.distances neighbour.zone None) ≡ true)).
      subst (λ (s : Search). IsVisiting c.args.grid.now (directed_room (room_of c.args.rooms.now) c.args.towards) c.args.zone s.distances s.zones s.count c.loop-next.next
      (get_or c.loop-next.search.zones c.loop-next.next 0) (c.unwrap-distance.result + 1) c.neighbours-neighbour-items.result.now (c.loop-neighbour.neighbour-index + 1)) (sym same)
      (visit_skips c.args.grid.now (directed_room (room_of c.args.rooms.now) c.args.towards) c.args.zone c.loop-neighbour.search.distances c.loop-neighbour.search.zones c.loop-neighbour.search.count
      c.loop-next.next _ _ c.neighbours-neighbour-items.result.now c.loop-neighbour.neighbour-index neighbour
      (λ d. at_any c.neighbours-neighbour-items.result.now c.loop-neighbour.neighbour-index d no_neighbour c.loop-neighbour-test.true) c.loop-neighbour.invariant.visiting none) in
      elim c.if-room-gt0.branch [
        | then-room-gt0+then-is_none w ↦
            visit_goes_on c.args.grid.now (directed_room (room_of c.args.rooms.now) c.args.towards) c.args.zone c.loop-neighbour.search.distances c.if-room-gt0.search.distances
            c.loop-neighbour.search.zones c.if-room-gt0.search.zones c.loop-neighbour.search.count c.if-room-gt0.search.count c.loop-next.next _ _
            c.neighbours-neighbour-items.result.now c.loop-neighbour.neighbour-index no_neighbour c.zones-zones.ensures.grid c.neighbours-neighbour-items.ensures.neighbours
            c.loop-neighbour-test.true c.loop-neighbour.invariant.visiting
            (has_room c.room_over-room.result _ c.room_over-room.ensures w.if-room-gt0.true)
            (sym w.distance-then-room-gt0.ensures ∙ none_from w.distance-then-room-gt0.result w.is_none.result w.is_none.ensures w.if-is_none.true)
            (ap (λ (s : Search). s.distances) w.search-is ∙ w.add.ensures.distances)
            (ap (λ (s : Search). s.zones) w.search-is ∙ w.add.ensures.zones)
            (ap (λ (s : Search). s.count) w.search-is ∙ w.add.ensures.count)
        | else-room-gt0 w ↦ elim w.else-room-gt0.branch [
          | else-room-gt0-via-then-room-gt0+else-is_none w' ↦
              skips w.search-is (inr (ap is_some (sym w'.distance-then-room-gt0.ensures) ∙ w'.is_none.ensures ∙ ap not w'.if-is_none.false))
          | else-room-gt0-via-else-room-gt0 w' ↦
              skips w.search-is (inl (no_room c.room_over-room.result _ c.room_over-room.ensures w'.if-room-gt0.false))
        ]
      ];
}

pub loop-next-preserved : goal.loop-next-preserved
loop-next-preserved c =
    visit_ends c.args.grid.now (directed_room (room_of c.args.rooms.now) c.args.towards) c.args.zone c.loop-neighbour.search.distances c.loop-neighbour.search.zones c.loop-neighbour.search.count
    c.loop-next.next _ _ c.neighbours-neighbour-items.result.now c.loop-neighbour.neighbour-index c.loop-neighbour.invariant.neighbours c.loop-neighbour-test.false
    c.loop-neighbour.invariant.visiting

pub returns : goal.returns
returns c =
    ended c.args.grid.now (directed_room (room_of c.args.rooms.now) c.args.towards) c.args.zone c.loop-next.search.distances c.loop-next.search.zones c.loop-next.search.count c.loop-next.next
    c.loop-next.invariant c.loop-next-test.false
