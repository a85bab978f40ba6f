use Rattle.std.proofs.Common.{◌∙◌, ◌<◌, length, ap, sym, subst, arith}
use Rattle.std.proofs.lemmas.Bool.{true≢false}
use Rattle.order_kinds.specs.declared.side.Side.TheVariants.{Sell}
use Rattle.zone_graph.specs.Graph.{Graph, HasZone, zone_count}
use Rattle.sweep_core.specs.Meeting.{shown_line}
use Rattle.sweep_core.proofs.Lines.{behind-of, first-of, line-is, number_of, rests}
use Rattle.sweep_core.proofs.FreeZones.{all-free, room-kept, some-free}
use Rattle.sweep_core.proofs.SellFronts.{decide-none, walk-decide, walk-ended, walk-fewer, walk-hidden, walk-stands, walk-there, walk-uncrossed}
use Rattle.zone_graph.proofs.Walks.{begins, begins-first}
use Rattle.sweep_core.proofs.sells.sell_fronts.Goals as goal

pub loop-next-init : goal.loop-next-init
loop-next-init g c =
    let board = g.B.Board.state c.args.board.now in
    let line = shown_line board c.args.part Sell in
    let first = first-of board c.args.part Sell c.first-next.result c.first-next.ensures.first in
    let free = all-free (zone_count c.args.grid.now) c.no_marks-marks.result c.no_marks-marks.ensures in
    let none = ap length c.in_ok-fronts.ensures.items in
    record {
      stands = begins-first number_of line c.first-next.result first;
      decide = decide-none line c.args.best.now c.in_ok-fronts.fronts.items _ c.in_ok-fronts.ensures.items (begins number_of line c.first-next.result first);
      hidden = λ sell i m. absurd (true≢false (sym m ∙ c.no_marks-marks.ensures sell.zone));
      room = omega (arith, free, none);
      capacity = c.in_ok-fronts.ensures.exact ∙ c.zones-zones.ensures.count;
    }

pub returns-then-not-crosses-clause-fronts : goal.returns-then-not-crosses-clause-fronts
returns-then-not-crosses-clause-fronts g c =
    let board = g.B.Board.state c.args.board.now in
    let line = shown_line board c.args.part Sell in
    let is_line = line-is board c.args.part Sell c.first-next.ensures.board c.requires.no_hand in
    walk-uncrossed board.grid line is_line c.args.best.now c.loop-next.fronts.items c.loop-next.marks c.loop-next.next
    c.loop-next.invariant.stands c.loop-next.invariant.decide c.loop-next.invariant.hidden c.in-Some.sell c.in-Some.is
    (sym c.crosses.ensures ∙ c.if-not-crosses.true)

pub add_front-requires-clause-zone : goal.add_front-requires-clause-zone
add_front-requires-clause-zone g c =
    let board = g.B.Board.state c.args.board.now in
    let line = shown_line board c.args.part Sell in
    let is_line = line-is board c.args.part Sell c.first-next.ensures.board c.requires.no_hand in
    let there = walk-there board.grid line is_line c.args.best.now c.loop-next.fronts.items c.loop-next.marks c.loop-next.next
    c.loop-next.invariant.stands c.loop-next.invariant.decide c.loop-next.invariant.hidden c.in-Some.sell c.in-Some.is in
    let zone : c.in-Some.sell.zone < zone_count c.args.grid.now =
    subst (λ (graph : Graph). HasZone graph c.in-Some.sell.zone) (sym c.requires.grid) (is_line.zones c.in-Some.sell there) in
    let few = c.zones-zones.ensures.grid.few_zones in
    omega (arith, zone, few)

pub add_front-requires-clause-room : goal.add_front-requires-clause-room
add_front-requires-clause-room g c free =
    let board = g.B.Board.state c.args.board.now in
    let line = shown_line board c.args.part Sell in
    let is_line = line-is board c.args.part Sell c.first-next.ensures.board c.requires.no_hand in
    let there = walk-there board.grid line is_line c.args.best.now c.loop-next.fronts.items c.loop-next.marks c.loop-next.next
    c.loop-next.invariant.stands c.loop-next.invariant.decide c.loop-next.invariant.hidden c.in-Some.sell c.in-Some.is in
    let zone : c.in-Some.sell.zone < zone_count c.args.grid.now =
    subst (λ (graph : Graph). HasZone graph c.in-Some.sell.zone) (sym c.requires.grid) (is_line.zones c.in-Some.sell there) in
    let some = some-free (zone_count c.args.grid.now) c.in-Some.sell.zone c.loop-next.marks zone free in
    let room = c.loop-next.invariant.room in
    let capacity = c.loop-next.invariant.capacity in
    omega (arith, some, room, capacity)

pub after-next-requires : goal.after-next-requires
after-next-requires g c =
    let board = g.B.Board.state c.args.board.now in
    let line = shown_line board c.args.part Sell in
    let is_line = line-is board c.args.part Sell c.first-next.ensures.board c.requires.no_hand in
    let there = walk-there board.grid line is_line c.args.best.now c.loop-next.fronts.items c.loop-next.marks c.loop-next.next
    c.loop-next.invariant.stands c.loop-next.invariant.decide c.loop-next.invariant.hidden c.in-Some.sell c.in-Some.is in
    record { rests = rests board c.args.part Sell c.in-Some.sell c.requires.part there }

pub loop-next-smaller : goal.loop-next-smaller
loop-next-smaller g c =
    let board = g.B.Board.state c.args.board.now in
    let line = shown_line board c.args.part Sell in
    let is_line = line-is board c.args.part Sell c.first-next.ensures.board c.requires.no_hand in
    let there = walk-there board.grid line is_line c.args.best.now c.loop-next.fronts.items c.loop-next.marks c.loop-next.next
    c.loop-next.invariant.stands c.loop-next.invariant.decide c.loop-next.invariant.hidden c.in-Some.sell c.in-Some.is in
    let behind = behind-of board c.args.part Sell c.in-Some.sell c.after-next.result c.requires.part there c.after-next.ensures.next in
    walk-fewer board.grid line is_line c.args.best.now c.loop-next.fronts.items c.loop-next.marks c.loop-next.next
    c.loop-next.invariant.stands c.loop-next.invariant.decide c.loop-next.invariant.hidden c.in-Some.sell c.in-Some.is c.after-next.result behind

pub loop-next-preserved : goal.loop-next-preserved
loop-next-preserved g c =
    let board = g.B.Board.state c.args.board.now in
    let line = shown_line board c.args.part Sell in
    let is_line = line-is board c.args.part Sell c.first-next.ensures.board c.requires.no_hand in
    let there = walk-there board.grid line is_line c.args.best.now c.loop-next.fronts.items c.loop-next.marks c.loop-next.next
    c.loop-next.invariant.stands c.loop-next.invariant.decide c.loop-next.invariant.hidden c.in-Some.sell c.in-Some.is in
    let zone : c.in-Some.sell.zone < zone_count c.args.grid.now =
    subst (λ (graph : Graph). HasZone graph c.in-Some.sell.zone) (sym c.requires.grid) (is_line.zones c.in-Some.sell there) in
    let behind = behind-of board c.args.part Sell c.in-Some.sell c.after-next.result c.requires.part there c.after-next.ensures.next in
    record {
      stands = walk-stands board.grid line is_line c.args.best.now c.loop-next.fronts.items c.loop-next.marks c.loop-next.next
          c.loop-next.invariant.stands c.loop-next.invariant.decide c.loop-next.invariant.hidden c.in-Some.sell c.in-Some.is c.after-next.result behind;
      decide = walk-decide board.grid line is_line c.args.best.now c.loop-next.fronts.items c.loop-next.marks c.loop-next.next
          c.loop-next.invariant.stands c.loop-next.invariant.decide c.loop-next.invariant.hidden c.in-Some.sell c.in-Some.is c.after-next.result behind
          c.add_front.new.marks c.add_front.new.fronts.items c.add_front.ensures.marks c.add_front.ensures.fronts;
      hidden = walk-hidden board.grid line is_line c.args.best.now c.loop-next.fronts.items c.loop-next.marks c.loop-next.next
          c.loop-next.invariant.stands c.loop-next.invariant.decide c.loop-next.invariant.hidden c.in-Some.sell c.in-Some.is c.after-next.result behind
          c.add_front.new.marks c.add_front.new.fronts.items c.add_front.ensures.marks c.add_front.ensures.fronts;
      room = room-kept (zone_count c.args.grid.now) c.loop-next.marks c.add_front.new.marks c.in-Some.sell c.loop-next.fronts.items c.add_front.new.fronts.items zone
          c.add_front.ensures.marks c.add_front.ensures.fronts c.loop-next.invariant.room;
      capacity = c.add_front.ensures.capacity ∙ c.loop-next.invariant.capacity;
    }

pub returns-clause-fronts : goal.returns-clause-fronts
returns-clause-fronts g c =
    let board = g.B.Board.state c.args.board.now in
    let line = shown_line board c.args.part Sell in
    let is_line = line-is board c.args.part Sell c.first-next.ensures.board c.requires.no_hand in
    walk-ended board.grid line is_line c.args.best.now c.loop-next.fronts.items c.loop-next.marks c.loop-next.next
    c.loop-next.invariant.stands c.loop-next.invariant.decide c.loop-next.invariant.hidden c.in_default.is
