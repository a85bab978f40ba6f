use Rattle.std.proofs.Common.{◌≡◌, false, get_or, true, subst, sym, arith}
use Rattle.zone_graph.specs.declared.grid.Neighbour.{Neighbour}
use Rattle.cut_proof.proofs.Neighbours.{neighbour_at, neighbour_within}
use Rattle.local_view.specs.declared.ways.Way.{Way}
use Rattle.local_view.proofs.Leading.{found_as, found_more, still_found}
use Rattle.local_view.proofs.ways.lead_on.Goals as goal
use Rattle.local_view.proofs.ways.lead_on.Goals.{then-not-found-to, else-not-found-to}

abbrev no_neighbour : Neighbour
no_neighbour = record { arc = record { border = 0; forward = false }; zone = 0 }

pub bounds-found-to : goal.bounds-found-to
bounds-found-to c =
    let within = neighbour_within c.args.grid.now c.args.zone c.neighbours-neighbour-items.result.now c.loop-neighbour.neighbour-index no_neighbour
    c.zones-zones.ensures.grid c.neighbours-neighbour-items.ensures.neighbours c.loop-neighbour-test.true in
    let flags = c.loop-neighbour.invariant.found.flags in omega (arith, within, flags)

pub bounds-found-to-then-not-found-to : goal.bounds-found-to-then-not-found-to
bounds-found-to-then-not-found-to c =
    let within = neighbour_within c.args.grid.now c.args.zone c.neighbours-neighbour-items.result.now c.loop-neighbour.neighbour-index no_neighbour
    c.zones-zones.ensures.grid c.neighbours-neighbour-items.ensures.neighbours c.loop-neighbour-test.true in
    let flags = c.loop-neighbour.invariant.found.flags in omega (arith, within, flags)

pub loop-neighbour-preserved : goal.loop-neighbour-preserved
loop-neighbour-preserved c =
    let neighbour = get_or c.neighbours-neighbour-items.result.now c.loop-neighbour.neighbour-index no_neighbour in
    let own = neighbour_at c.args.grid.now c.args.zone c.neighbours-neighbour-items.result.now c.loop-neighbour.neighbour-index no_neighbour
    c.zones-zones.ensures.grid.is_graph c.neighbours-neighbour-items.ensures.neighbours c.loop-neighbour-test.true in
    let within = neighbour_within c.args.grid.now c.args.zone c.neighbours-neighbour-items.result.now c.loop-neighbour.neighbour-index no_neighbour
    c.zones-zones.ensures.grid c.neighbours-neighbour-items.ensures.neighbours c.loop-neighbour-test.true in
    elim c.if-not-found-to.branch [
      | then-not-found-to w ↦
          let way : Way = record { arc = neighbour.arc; near = c.args.zone; far = neighbour.zone } in
          record {
            grid = c.loop-neighbour.invariant.grid;
            neighbours = c.loop-neighbour.invariant.neighbours;
            found = found_as c.args.grid.now _ _ _ _ _ _ w.ways-is w.count-is w.found-is
                (found_more c.args.grid.now c.loop-neighbour.ways c.loop-neighbour.count c.loop-neighbour.found way
                c.loop-neighbour.invariant.found own.known own.start c.loop-neighbour.invariant.begun own.end within w.if-not-found-to.true);
            begun = subst (λ found. get_or found c.args.zone false ≡ true) (sym w.found-is)
                (still_found c.loop-neighbour.found neighbour.zone c.args.zone (let flags = c.loop-neighbour.invariant.found.flags in omega (arith, within, flags)) c.loop-neighbour.invariant.begun);
          }
      | else-not-found-to w ↦ record {
        grid = c.loop-neighbour.invariant.grid;
        neighbours = c.loop-neighbour.invariant.neighbours;
        found = found_as c.args.grid.now _ _ _ _ _ _ w.ways-is w.count-is w.found-is c.loop-neighbour.invariant.found;
        begun = subst (λ found. get_or found c.args.zone false ≡ true) (sym w.found-is) c.loop-neighbour.invariant.begun;
      }
    ]
