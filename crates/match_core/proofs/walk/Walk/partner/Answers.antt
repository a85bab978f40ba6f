use Rattle.std.proofs.Common.{◌∙◌, ◌<◌, sym, ap, subst, arith}
use Rattle.zone_graph.specs.Graph.{Graph, HasZone}
use Rattle.zone_graph.specs.Rooms.{room_of}
use Rattle.order_kinds.specs.Side.{opposite}
use Rattle.route_choice.specs.Freshness.{searched_route}
use Rattle.market_model.specs.Taking.{next_leg}
use Rattle.match_core.specs.declared.taker.Taker.{Taker}
use Rattle.match_core.proofs.Walking.{fewer-on, is-partner, none-behind, none-crosses, nothing-left, rests-there, shown-zone, stands-on}
use Rattle.match_core.proofs.walk.Walk.partner.Goals as goal

pub returns-then-self-eq0-clause-none : goal.returns-then-self-eq0-clause-none
returns-then-self-eq0-clause-none g c = λ _. nothing-left (g.B.Board.state c.args.board.now) c.args.self.now c.requires.stands c.if-self-eq0.true

pub returns-then-not-crosses-clause-none : goal.returns-then-not-crosses-clause-none
returns-then-not-crosses-clause-none g c = λ _.
    let state = g.B.Board.state c.args.board.now in
    let some : 0 < c.loop-next.self.taker.left = let same = ap (λ (t : Taker). t.left) c.loop-next.invariant.taker in omega (arith, same) in
    ap (λ (t : Taker). next_leg state.grid t.name state.events) (sym c.loop-next.invariant.taker)
    ∙ none-crosses state c.loop-next.self c.loop-next.next c.loop-next.invariant.stands c.in-Some.order c.in-Some.is some (sym c.crosses.ensures ∙ c.if-not-crosses.true)

pub route-requires-clause-other : goal.route-requires-clause-other
route-requires-clause-other g c =
    let state = g.B.Board.state c.args.board.now in
    let some : 0 < c.loop-next.self.taker.left = let same = ap (λ (t : Taker). t.left) c.loop-next.invariant.taker in omega (arith, same) in
    subst (λ (g : Graph). HasZone g c.in-Some.order.zone) (sym c.requires.grid)
    (shown-zone state c.loop-next.self c.loop-next.next c.loop-next.invariant.stands c.in-Some.order c.in-Some.is some)

pub returns-in-Some-2-clause-found : goal.returns-in-Some-2-clause-found
returns-in-Some-2-clause-found g c =
    let state = g.B.Board.state c.args.board.now in
    let self = c.loop-next.self in
    let some : 0 < self.taker.left = let same = ap (λ (t : Taker). t.left) c.loop-next.invariant.taker in omega (arith, same) in
    is-partner state self c.loop-next.next c.loop-next.invariant.stands c.in-Some.order c.in-Some.is some (sym c.crosses.ensures ∙ c.if-not-crosses.false)
    c.in-Some-2.route
    (ap (λ (g : Graph). searched_route g (room_of self.rooms) self.search c.in-Some.order.zone) (sym c.requires.grid) ∙ sym c.in_ok-route.ensures ∙ c.in-Some-2.is)

pub after-next-requires : goal.after-next-requires
after-next-requires g c =
    let state = g.B.Board.state c.args.board.now in
    let self = c.loop-next.self in
    let some : 0 < self.taker.left = let same = ap (λ (t : Taker). t.left) c.loop-next.invariant.taker in omega (arith, same) in
    record {
      rests = (
        self.part,
        opposite c.loop-next.invariant.stands.stands.order.order.side,
        rests-there state self c.loop-next.next c.loop-next.invariant.stands c.in-Some.order c.in-Some.is some
            (ap (λ (g : Graph). searched_route g (room_of self.rooms) self.search c.in-Some.order.zone) (sym c.requires.grid) ∙ sym c.in_ok-route.ensures ∙ c.in_default-2.is),
      );
    }

pub loop-next-smaller : goal.loop-next-smaller
loop-next-smaller g c =
    let state = g.B.Board.state c.args.board.now in
    let self = c.loop-next.self in
    let some : 0 < self.taker.left = let same = ap (λ (t : Taker). t.left) c.loop-next.invariant.taker in omega (arith, same) in
    let away = ap (λ (g : Graph). searched_route g (room_of self.rooms) self.search c.in-Some.order.zone) (sym c.requires.grid) ∙ sym c.in_ok-route.ensures ∙ c.in_default-2.is in
    let order_side = opposite c.loop-next.invariant.stands.stands.order.order.side in
    fewer-on state self c.loop-next.next c.loop-next.invariant.stands c.in-Some.order c.in-Some.is some away c.after-next.result
    (c.after-next.ensures.next self.part order_side (rests-there state self c.loop-next.next c.loop-next.invariant.stands c.in-Some.order c.in-Some.is some away))

pub loop-next-preserved : goal.loop-next-preserved
loop-next-preserved g c =
    let state = g.B.Board.state c.args.board.now in
    let self = c.loop-next.self in
    let some : 0 < self.taker.left = let same = ap (λ (t : Taker). t.left) c.loop-next.invariant.taker in omega (arith, same) in
    let away = ap (λ (g : Graph). searched_route g (room_of self.rooms) self.search c.in-Some.order.zone) (sym c.requires.grid) ∙ sym c.in_ok-route.ensures ∙ c.in_default-2.is in
    let order_side = opposite c.loop-next.invariant.stands.stands.order.order.side in
    record {
      stands = stands-on state self c.loop-next.next c.loop-next.invariant.stands c.in-Some.order c.in-Some.is some away c.after-next.result
          (c.after-next.ensures.next self.part order_side (rests-there state self c.loop-next.next c.loop-next.invariant.stands c.in-Some.order c.in-Some.is some away));
      taker = c.loop-next.invariant.taker;
    }

pub returns-clause-none : goal.returns-clause-none
returns-clause-none g c = λ _.
    let state = g.B.Board.state c.args.board.now in
    ap (λ (t : Taker). next_leg state.grid t.name state.events) (sym c.loop-next.invariant.taker)
    ∙ none-behind state c.loop-next.self c.loop-next.next c.loop-next.invariant.stands c.in_default.is
