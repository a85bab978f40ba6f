use Rattle.std.proofs.Common.{◌≡◌, ◌∙◌, refl, ap, subst, arith}
use Rattle.zone_graph.specs.declared.route.Arc.{Arc}
use Rattle.zone_graph.specs.Pour.{room_after}
use Rattle.zone_graph.specs.Rooms.{room_of}
use Rattle.zone_graph.specs.Route.{IsIn}
use Rattle.route_choice.specs.Freshness.{StaysFresh}
use Rattle.match_core.proofs.walk.Walk.go_on.Goals as goal

pub is_fresh_after-requires : goal.is_fresh_after-requires
is_fresh_after-requires c = λ arc i.
    let within = c.requires.leg.arcs arc (subst (IsIn arc) c.as_slice-route.ensures i) in
    omega (arith, within, c.carry.ensures.size)

pub returns-else-not-is_fresh_after : goal.returns-else-not-is_fresh_after
returns-else-not-is_fresh_after c =
    let before = c.args.self.now in
    let leg = c.args.leg.now in
    let rooms : (arc : Arc) → room_of c.carry.new.rooms arc ≡ room_after (room_of before.rooms) (record { route = leg.route; lots = leg.lots }) arc =
    λ arc. c.carry.ensures.rooms arc ∙ ap (λ route. room_after (room_of before.rooms) (record { route = route; lots = leg.lots }) arc) c.as_slice-route.ensures in
    let stays : StaysFresh before.search (room_of c.carry.new.rooms) leg.route =
    subst (StaysFresh before.search (room_of c.carry.new.rooms)) c.as_slice-route.ensures (c.is_fresh_after.ensures.fresh c.if-not-is_fresh_after.false) in
    record {
      after = record {
        part = refl;
        passed = refl;
        at_place = refl;
        taker = c.fill.ensures;
        size = c.carry.ensures.size;
        rooms = rooms;
        fresh = stays c.args.grid.now (room_of before.rooms) c.requires.leg.other leg.lots c.requires.leg.is_graph c.requires.leg.fresh c.requires.leg.route rooms;
        zone = c.requires.leg.zone;
        towards = c.requires.leg.towards;
      };
    }
