use Rattle.std.proofs.Common.{◌≡◌, ◌∙◌, ◌<◌, Some, None, IfOk, sym, subst, arith}
use Rattle.zone_graph.specs.Rooms.{room_of}
use Rattle.plain_market.proofs.Reach.{found-fill, in_reach-known, reach-find}
use Rattle.plain_market.proofs.filling.next_fill.Goals as goal

pub fill_with-requires-clause-maker : goal.fill_with-requires-clause-maker
fill_with-requires-clause-maker c =
    in_reach-known c.args.grid.now (room_of c.args.rooms.now) c.args.side c.args.zone c.args.left c.args.makers.now c.distances-distances.result c.in-Some.maker c.requires.makers
    (sym c.first_in_reach.ensures ∙ c.in-Some.is)

pub returns-in-Some-clause-fill : goal.returns-in-Some-clause-fill
returns-in-Some-clause-fill c =
    let some : 0 < c.args.left = omega (arith, c.if-left-eq0.false) in
    let found = c.in-Some.ensures ∙ reach-find c.args.grid.now (room_of c.args.rooms.now) c.args.side c.args.zone c.args.left c.args.makers.now
    c.distances-distances.result c.is_sell.result c.is_sell.ensures c.zones-zones.ensures.grid.is_graph c.distances-distances.ensures in
    subst (λ v. IfOk c.fill_with.result (λ fill. fill ≡ v))
    (found-fill c.args.grid.now (room_of c.args.rooms.now) c.args.side c.args.zone c.args.left c.args.makers.now (Some c.in-Some.maker) some found)
    c.fill_with.ensures

pub returns-in-None-clause-fill : goal.returns-in-None-clause-fill
returns-in-None-clause-fill c =
    let some : 0 < c.args.left = omega (arith, c.if-left-eq0.false) in
    let found = c.in-None.ensures ∙ reach-find c.args.grid.now (room_of c.args.rooms.now) c.args.side c.args.zone c.args.left c.args.makers.now
    c.distances-distances.result c.is_sell.result c.is_sell.ensures c.zones-zones.ensures.grid.is_graph c.distances-distances.ensures in
    found-fill c.args.grid.now (room_of c.args.rooms.now) c.args.side c.args.zone c.args.left c.args.makers.now None some found
