use Rattle.std.proofs.Common.{subst, sym, arith}
use Rattle.std.proofs.lemmas.Bool.{ltb-true}
use Rattle.zone_graph.specs.Graph.{Graph, HasZone}
use Rattle.local_view.proofs.Listed.{at-order, fewer, rests, rests-in, zone-known}
use Rattle.local_view.proofs.Reading.{begins, ends, one-read}
use Rattle.local_view.proofs.whole.WholeLine.read.Goals as goal

pub loop-next-init : goal.loop-next-init
loop-next-init g c = begins (g.B.Board.state c.args.board.now) c.args.line.part c.args.line.side c.first-next.result c.clear.new.self.items c.clear-2.new.self.items c.first-next.ensures.first c.clear.ensures.items c.clear-2.ensures.items

pub after-next-requires : goal.after-next-requires
after-next-requires g c = record {
  rests = rests (g.B.Board.state c.args.board.now) c.first-next.ensures.board c.requires.hand c.args.line.part c.requires.part c.args.line.side 0 c.in-Some.order (at-order (g.B.Board.state c.args.board.now) c.first-next.ensures.board c.requires.hand c.args.line.part c.requires.part c.args.line.side 0 c.loop-next.next c.in-Some.order c.loop-next.invariant.stands c.in-Some.is);
}

pub loop-next-smaller : goal.loop-next-smaller
loop-next-smaller g c =
    fewer (g.B.Board.state c.args.board.now) c.first-next.ensures.board c.requires.hand c.args.line.part c.requires.part c.args.line.side 0 c.in-Some.order (at-order (g.B.Board.state c.args.board.now) c.first-next.ensures.board c.requires.hand c.args.line.part c.requires.part c.args.line.side 0 c.loop-next.next c.in-Some.order c.loop-next.invariant.stands c.in-Some.is) c.loop-next.next c.after-next.result c.in-Some.is
    (c.after-next.ensures.next c.args.line.part c.args.line.side (rests-in (g.B.Board.state c.args.board.now) c.first-next.ensures.board c.requires.hand c.args.line.part c.requires.part c.args.line.side 0 c.in-Some.order (at-order (g.B.Board.state c.args.board.now) c.first-next.ensures.board c.requires.hand c.args.line.part c.requires.part c.args.line.side 0 c.loop-next.next c.in-Some.order c.loop-next.invariant.stands c.in-Some.is)))

pub prove-unreachable-requires : goal.prove-unreachable-requires
prove-unreachable-requires g c =
    let there = subst (λ (graph : Graph). HasZone graph c.in-Some.order.zone) (sym c.requires.grid) (zone-known (g.B.Board.state c.args.board.now) c.first-next.ensures.board c.requires.hand c.args.line.part c.requires.part c.args.line.side 0 c.in-Some.order (at-order (g.B.Board.state c.args.board.now) c.first-next.ensures.board c.requires.hand c.args.line.part c.requires.part c.args.line.side 0 c.loop-next.next c.in-Some.order c.loop-next.invariant.stands c.in-Some.is)) in
    omega (arith, there, c.zones-zones.ensures.count)

pub loop-next-preserved : goal.loop-next-preserved
loop-next-preserved g c =
    let there = subst (λ (graph : Graph). HasZone graph c.in-Some.order.zone) (sym c.requires.grid) (zone-known (g.B.Board.state c.args.board.now) c.first-next.ensures.board c.requires.hand c.args.line.part c.requires.part c.args.line.side 0 c.in-Some.order (at-order (g.B.Board.state c.args.board.now) c.first-next.ensures.board c.requires.hand c.args.line.part c.requires.part c.args.line.side 0 c.loop-next.next c.in-Some.order c.loop-next.invariant.stands c.in-Some.is)) in
    one-read (g.B.Board.state c.args.board.now) c.args.line.part c.args.line.side c.loop-next.next c.after-next.result c.in-Some.order c.loop-next.self.orders.items c.push.new.self.items c.loop-next.self.rows.items c.add_row.new.rows.items c.loop-next.self.shown c.loop-next.all
    c.saturating_add-all.result c.saturating_add.result c.loop-next.invariant (at-order (g.B.Board.state c.args.board.now) c.first-next.ensures.board c.requires.hand c.args.line.part c.requires.part c.args.line.side 0 c.loop-next.next c.in-Some.order c.loop-next.invariant.stands c.in-Some.is) c.in-Some.is
    (omega (arith, there, c.zones-zones.ensures.grid.few_zones)) c.saturating_add-all.ensures c.saturating_add.ensures c.in_ok-push.ensures.items c.in_ok-add_row.ensures
    (c.after-next.ensures.next c.args.line.part c.args.line.side (rests-in (g.B.Board.state c.args.board.now) c.first-next.ensures.board c.requires.hand c.args.line.part c.requires.part c.args.line.side 0 c.in-Some.order (at-order (g.B.Board.state c.args.board.now) c.first-next.ensures.board c.requires.hand c.args.line.part c.requires.part c.args.line.side 0 c.loop-next.next c.in-Some.order c.loop-next.invariant.stands c.in-Some.is)))

pub returns : goal.returns
returns g c = ends (g.B.Board.state c.args.board.now) c.args.line.part c.args.line.side _ c.loop-next.all c.loop-next.next c.first-next.ensures.board c.loop-next.invariant c.in_default.is (ltb-true c.loop-next.all 4294967295)
