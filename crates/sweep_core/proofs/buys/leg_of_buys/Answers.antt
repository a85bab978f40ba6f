use Rattle.std.proofs.Common.{◌∙◌, ◌<◌, ap, sym, subst, arith}
use Rattle.std.proofs.lemmas.Bool.{true≢false}
use Rattle.order_kinds.specs.declared.side.Side.TheVariants.{Buy, Sell}
use Rattle.zone_graph.specs.Graph.{Graph, HasZone, border_count}
use Rattle.market_model.specs.Sweep.{first_answer}
use Rattle.sweep_core.specs.Meeting.{leg_of_shown, part_room, shown_line}
use Rattle.sweep_core.proofs.BuyWalk.{buys-apart, buys-fewer, buys-found, buys-onward, buys-stands, buys-there, buys-tried}
use Rattle.sweep_core.proofs.Lines.{behind-of, best-there, first-of, line-is, number_of, rests}
use Rattle.sweep_core.proofs.Trading.{fronts-asked}
use Rattle.zone_graph.proofs.Walks.{begins, begins-first}
use Rattle.sweep_core.proofs.buys.leg_of_buys.Goals as goal

pub loop-next-init : goal.loop-next-init
loop-next-init g c =
    let board = g.B.Board.state c.args.board.now in
    let line = shown_line board c.args.part Buy in
    let first = first-of board c.args.part Buy c.first-next.result c.first-next.ensures.first in
    record {
      stands = begins-first number_of line c.first-next.result first;
      onward = ap (first_answer (leg_of_shown board c.args.part)) (begins number_of line c.first-next.result first);
      none = λ buy i m. absurd (true≢false (sym m ∙ c.no_marks-tried.ensures buy.zone));
    }

pub returns-then-not-crosses : goal.returns-then-not-crosses
returns-then-not-crosses g c =
    let board = g.B.Board.state c.args.board.now in
    let is_line = line-is board c.args.part Buy c.first-next.ensures.board c.requires.swept.no_hand in
    sym (buys-apart board.grid board.hour (part_room board c.args.part) (shown_line board c.args.part Sell) (shown_line board c.args.part Buy)
    is_line c.loop-next.tried c.loop-next.next c.loop-next.invariant.stands c.loop-next.invariant.onward c.loop-next.invariant.none c.in-Some.buy c.in-Some.is
    c.args.best.now (line-is board c.args.part Sell c.first-next.ensures.board c.requires.swept.no_hand).worse c.requires.best
    (sym c.crosses.ensures ∙ c.if-not-crosses.true))

pub leg_of_zone-requires-clause-size : goal.leg_of_zone-requires-clause-size
leg_of_zone-requires-clause-size g c = c.requires.rooms.size ∙ sym (ap border_count c.requires.swept.over_grid)

pub leg_of_zone-requires-clause-zone : goal.leg_of_zone-requires-clause-zone
leg_of_zone-requires-clause-zone g c =
    let board = g.B.Board.state c.args.board.now in
    let is_line = line-is board c.args.part Buy c.first-next.ensures.board c.requires.swept.no_hand in
    let there = buys-there board.grid board.hour (part_room board c.args.part) (shown_line board c.args.part Sell) (shown_line board c.args.part Buy)
    is_line c.loop-next.tried c.loop-next.next c.loop-next.invariant.stands c.loop-next.invariant.onward c.loop-next.invariant.none c.in-Some.buy c.in-Some.is in
    subst (λ (graph : Graph). HasZone graph c.in-Some.buy.zone) (sym c.requires.swept.over_grid) (is_line.zones c.in-Some.buy there)

pub returns-in-Some-2 : goal.returns-in-Some-2
returns-in-Some-2 g c =
    let board = g.B.Board.state c.args.board.now in
    let is_line = line-is board c.args.part Buy c.first-next.ensures.board c.requires.swept.no_hand in
    let there = buys-there board.grid board.hour (part_room board c.args.part) (shown_line board c.args.part Sell) (shown_line board c.args.part Buy)
    is_line c.loop-next.tried c.loop-next.next c.loop-next.invariant.stands c.loop-next.invariant.onward c.loop-next.invariant.none c.in-Some.buy c.in-Some.is in
    let best = best-there Buy (shown_line board c.args.part Buy) c.in-Some.buy is_line.worse there in
    let told = fronts-asked board c.args.part c.args.sells.now.rooms.now c.requires.rooms c.first-next.ensures.board c.in-Some.buy
    c.args.sells.now.grid.now c.args.sells.now.hour best.0 c.args.sells.now.fronts.now c.loop-next.tried c.in_ok-leg.field-0
    c.requires.swept.over_grid c.requires.swept.in_hour (c.requires.fronts best.0 best.1) best.2 c.in_ok-leg.ensures.leg in
    sym (buys-found board.grid board.hour (part_room board c.args.part) (shown_line board c.args.part Sell) (shown_line board c.args.part Buy)
    is_line c.loop-next.tried c.loop-next.next c.loop-next.invariant.stands c.loop-next.invariant.onward c.loop-next.invariant.none c.in-Some.buy c.in-Some.is
    c.in-Some-2.leg (sym told ∙ c.in-Some-2.is))

pub after-next-requires : goal.after-next-requires
after-next-requires g c =
    let board = g.B.Board.state c.args.board.now in
    let is_line = line-is board c.args.part Buy c.first-next.ensures.board c.requires.swept.no_hand in
    let seven = c.requires.swept.has_parts in
    let part = c.requires.part in
    let within : c.args.part < board.parts = omega (arith, seven, part) in
    let there = buys-there board.grid board.hour (part_room board c.args.part) (shown_line board c.args.part Sell) (shown_line board c.args.part Buy)
    is_line c.loop-next.tried c.loop-next.next c.loop-next.invariant.stands c.loop-next.invariant.onward c.loop-next.invariant.none c.in-Some.buy c.in-Some.is in
    record { rests = rests board c.args.part Buy c.in-Some.buy within there }

pub loop-next-smaller : goal.loop-next-smaller
loop-next-smaller g c =
    let board = g.B.Board.state c.args.board.now in
    let is_line = line-is board c.args.part Buy c.first-next.ensures.board c.requires.swept.no_hand in
    let seven = c.requires.swept.has_parts in
    let part = c.requires.part in
    let within : c.args.part < board.parts = omega (arith, seven, part) in
    let there = buys-there board.grid board.hour (part_room board c.args.part) (shown_line board c.args.part Sell) (shown_line board c.args.part Buy)
    is_line c.loop-next.tried c.loop-next.next c.loop-next.invariant.stands c.loop-next.invariant.onward c.loop-next.invariant.none c.in-Some.buy c.in-Some.is in
    let behind = behind-of board c.args.part Buy c.in-Some.buy c.after-next.result within there c.after-next.ensures.next in
    buys-fewer board.grid board.hour (part_room board c.args.part) (shown_line board c.args.part Sell) (shown_line board c.args.part Buy)
    is_line c.loop-next.tried c.loop-next.next c.loop-next.invariant.stands c.loop-next.invariant.onward c.loop-next.invariant.none c.in-Some.buy c.in-Some.is c.after-next.result behind

pub loop-next-preserved : goal.loop-next-preserved
loop-next-preserved g c =
    let board = g.B.Board.state c.args.board.now in
    let is_line = line-is board c.args.part Buy c.first-next.ensures.board c.requires.swept.no_hand in
    let seven = c.requires.swept.has_parts in
    let part = c.requires.part in
    let within : c.args.part < board.parts = omega (arith, seven, part) in
    let there = buys-there board.grid board.hour (part_room board c.args.part) (shown_line board c.args.part Sell) (shown_line board c.args.part Buy)
    is_line c.loop-next.tried c.loop-next.next c.loop-next.invariant.stands c.loop-next.invariant.onward c.loop-next.invariant.none c.in-Some.buy c.in-Some.is in
    let behind = behind-of board c.args.part Buy c.in-Some.buy c.after-next.result within there c.after-next.ensures.next in
    let best = best-there Buy (shown_line board c.args.part Buy) c.in-Some.buy is_line.worse there in
    let told = fronts-asked board c.args.part c.args.sells.now.rooms.now c.requires.rooms c.first-next.ensures.board c.in-Some.buy
    c.args.sells.now.grid.now c.args.sells.now.hour best.0 c.args.sells.now.fronts.now c.loop-next.tried c.in_ok-leg.field-0
    c.requires.swept.over_grid c.requires.swept.in_hour (c.requires.fronts best.0 best.1) best.2 c.in_ok-leg.ensures.leg in
    let asked = sym told ∙ c.in_default-2.is in
    record {
      stands = buys-stands board.grid board.hour (part_room board c.args.part) (shown_line board c.args.part Sell) (shown_line board c.args.part Buy)
          is_line c.loop-next.tried c.loop-next.next c.loop-next.invariant.stands c.loop-next.invariant.onward c.loop-next.invariant.none c.in-Some.buy c.in-Some.is
          c.after-next.result behind;
      onward = buys-onward board.grid board.hour (part_room board c.args.part) (shown_line board c.args.part Sell) (shown_line board c.args.part Buy)
          is_line c.loop-next.tried c.loop-next.next c.loop-next.invariant.stands c.loop-next.invariant.onward c.loop-next.invariant.none c.in-Some.buy c.in-Some.is
          c.after-next.result behind asked;
      none = buys-tried board.grid board.hour (part_room board c.args.part) (shown_line board c.args.part Sell) (shown_line board c.args.part Buy)
          is_line c.loop-next.tried c.loop-next.next c.loop-next.invariant.stands c.loop-next.invariant.onward c.loop-next.invariant.none c.in-Some.buy c.in-Some.is
          c.after-next.result behind asked c.leg_of_zone.new.tried c.in_ok-leg.ensures.tried;
    }
