use Rattle.std.proofs.Common.{rules, ◌≡◌, ◌∙◌, ◌+◌, ◌≤◌, find, length, set, sym, ap, subst, arith, unwrap_or}
use Rattle.zone_graph.specs.Rooms.{room_of}
use Rattle.cut_proof.specs.Distance.{distance_at}
use Rattle.route_choice.specs.Search.{AreTaken, leads_nearer, least_step, step_at}
use Rattle.route_choice.proofs.Rising.{known_neighbours}
use Rattle.route_choice.proofs.Towards.{takes_one}
use Rattle.route_choice.proofs.search.Branches.take_least_steps.Goals as goal

pub first_nearer-least-requires-clause-known : goal.first_nearer-least-requires-clause-known
first_nearer-least-requires-clause-known c =
    let places : 64 ≤ length c.loop-zone.self.distances = search rules in
    known_neighbours c.args.grid.now c.loop-zone.zone c.neighbours.result.now c.args.rooms.now c.loop-zone.self.distances c.zones-zones.ensures.grid
    c.neighbours.ensures.neighbours c.requires.size places

pub loop-zone-preserved : goal.loop-zone-preserved
loop-zone-preserved c =
    let least : c.first_nearer-least.result ≡ least_step c.args.grid.now (room_of c.args.rooms.now) c.loop-zone.self.distances c.loop-zone.zone =
    c.first_nearer-least.ensures
    ∙ ap (find (leads_nearer (room_of c.args.rooms.now) c.loop-zone.self.distances (distance_at c.loop-zone.self.distances c.loop-zone.zone))) c.neighbours.ensures.neighbours in
    record {
      distances = c.loop-zone.invariant.distances;
      taken = subst (λ step. AreTaken c.args.grid.now (room_of c.args.rooms.now) c.loop-zone.self.distances (set c.loop-zone.self.steps c.loop-zone.zone step) (c.loop-zone.zone + 1))
          (sym (c.unwrap_or.ensures ∙ ap (λ found. unwrap_or found (step_at c.loop-zone.self.steps c.loop-zone.zone)) least))
          (takes_one c.args.grid.now (room_of c.args.rooms.now) c.loop-zone.self.distances c.loop-zone.self.steps c.loop-zone.zone c.zones-zones.ensures.grid
          (omega (arith, c.loop-zone-test.true, c.zones-zones.ensures.count)) c.loop-zone.invariant.taken);
    }
