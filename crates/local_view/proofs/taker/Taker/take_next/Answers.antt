use Rattle.std.proofs.Common.{◌≡◌, ◌∙◌, ℕ, List, Some, take, refl, subst, sym, arith}
use Rattle.zone_graph.specs.Rooms.{room_of}
use Rattle.local_view.specs.Takers.{best_between}
use Rattle.local_view.proofs.Takers.{arcs_known, can_carry, fit_after, taker-stays}
use Rattle.local_view.proofs.taker.Taker.take_next.Goals as goal

pub carried-lots-requires : goal.carried-lots-requires
carried-lots-requires c = record {
  arcs = arcs_known c.args.grid.now c.zones-zones.ensures.grid.is_graph c.route_to.new.walk.rooms c.route_to.ensures.walking.size c.route_to.ensures.walking.fit c.args.self.now.side c.args.self.now.zone c.args.other c.args.left (omega (arith, c.if-left-eq0.false))
      (take c.in-Some.count c.route_to.new.walk.route)
      (subst (λ (rooms : List (ℕ × ℕ)). best_between c.args.grid.now (room_of rooms) c.args.self.now.side c.args.self.now.zone c.args.other ≡ Some (take c.in-Some.count c.route_to.new.walk.route)) (sym c.route_to.ensures.rooms) c.in-Some.ensures.some)
      (take c.in-Some.count c.route_to.new.walk.route) refl _ refl;
}

pub carry-requires : goal.carry-requires
carry-requires c =
    can_carry c.args.grid.now c.zones-zones.ensures.grid.is_graph c.route_to.new.walk.rooms c.route_to.ensures.walking.size c.route_to.ensures.walking.fit c.args.self.now.side c.args.self.now.zone c.args.other c.args.left (omega (arith, c.if-left-eq0.false))
    (take c.in-Some.count c.route_to.new.walk.route)
    (subst (λ (rooms : List (ℕ × ℕ)). best_between c.args.grid.now (room_of rooms) c.args.self.now.side c.args.self.now.zone c.args.other ≡ Some (take c.in-Some.count c.route_to.new.walk.route)) (sym c.route_to.ensures.rooms) c.in-Some.ensures.some)
    c.carried-lots.result (take c.in-Some.count c.route_to.new.walk.route) (take c.in-Some.count c.route_to.new.walk.route) refl c.carried-lots.ensures refl

pub have_room-requires : goal.have_room-requires
have_room-requires c =
    arcs_known c.args.grid.now c.zones-zones.ensures.grid.is_graph c.route_to.new.walk.rooms c.route_to.ensures.walking.size c.route_to.ensures.walking.fit c.args.self.now.side c.args.self.now.zone c.args.other c.args.left (omega (arith, c.if-left-eq0.false))
    (take c.in-Some.count c.route_to.new.walk.route)
    (subst (λ (rooms : List (ℕ × ℕ)). best_between c.args.grid.now (room_of rooms) c.args.self.now.side c.args.self.now.zone c.args.other ≡ Some (take c.in-Some.count c.route_to.new.walk.route)) (sym c.route_to.ensures.rooms) c.in-Some.ensures.some)
    (take c.in-Some.count c.route_to.new.walk.route) refl _ c.carry.ensures.size

pub returns-then-not-have_room-clause-walking : goal.returns-then-not-have_room-clause-walking
returns-then-not-have_room-clause-walking c = record {
  size = c.carry.ensures.size ∙ c.route_to.ensures.walking.size;
  fit = fit_after c.args.grid.now c.zones-zones.ensures.grid.is_graph c.route_to.new.walk.rooms c.route_to.ensures.walking.size c.route_to.ensures.walking.fit c.args.self.now.side c.args.self.now.zone c.args.other c.args.left (omega (arith, c.if-left-eq0.false))
      (take c.in-Some.count c.route_to.new.walk.route)
      (subst (λ (rooms : List (ℕ × ℕ)). best_between c.args.grid.now (room_of rooms) c.args.self.now.side c.args.self.now.zone c.args.other ≡ Some (take c.in-Some.count c.route_to.new.walk.route)) (sym c.route_to.ensures.rooms) c.in-Some.ensures.some)
      c.carry.new.rooms c.carried-lots.result c.carried-lots.ensures c.carry.ensures.rooms;
  places = c.route_to.ensures.walking.places;
  knows = c.search.ensures.knows;
}

pub returns-else-not-have_room-clause-walking : goal.returns-else-not-have_room-clause-walking
returns-else-not-have_room-clause-walking c = record {
  size = c.carry.ensures.size ∙ c.route_to.ensures.walking.size;
  fit = fit_after c.args.grid.now c.zones-zones.ensures.grid.is_graph c.route_to.new.walk.rooms c.route_to.ensures.walking.size c.route_to.ensures.walking.fit c.args.self.now.side c.args.self.now.zone c.args.other c.args.left (omega (arith, c.if-left-eq0.false))
      (take c.in-Some.count c.route_to.new.walk.route)
      (subst (λ (rooms : List (ℕ × ℕ)). best_between c.args.grid.now (room_of rooms) c.args.self.now.side c.args.self.now.zone c.args.other ≡ Some (take c.in-Some.count c.route_to.new.walk.route)) (sym c.route_to.ensures.rooms) c.in-Some.ensures.some)
      c.carry.new.rooms c.carried-lots.result c.carried-lots.ensures c.carry.ensures.rooms;
  places = c.route_to.ensures.walking.places;
  knows = taker-stays c.args.grid.now c.zones-zones.ensures.grid.is_graph c.route_to.new.walk.rooms c.route_to.ensures.walking.size c.route_to.ensures.walking.fit c.args.self.now.side c.args.self.now.zone c.args.other c.args.left (omega (arith, c.if-left-eq0.false))
      (take c.in-Some.count c.route_to.new.walk.route)
      (subst (λ (rooms : List (ℕ × ℕ)). best_between c.args.grid.now (room_of rooms) c.args.self.now.side c.args.self.now.zone c.args.other ≡ Some (take c.in-Some.count c.route_to.new.walk.route)) (sym c.route_to.ensures.rooms) c.in-Some.ensures.some)
      c.carry.new.rooms c.carried-lots.result c.carried-lots.ensures c.carry.ensures.rooms c.args.self.now.own
      (sym c.have_room.ensures ∙ c.if-not-have_room.false) c.route_to.ensures.walking.knows;
}
