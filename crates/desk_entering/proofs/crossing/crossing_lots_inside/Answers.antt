use Rattle.std.proofs.Common.{◌≡◌, ◌∙◌, ap, arith, length, sum_by, sym}
use Rattle.order_kinds.specs.Side.{opposite}
use Rattle.contract_book.specs.Book.{first_of, line_of}
use Rattle.desk_entering.specs.Crossing.{lots_inside}
use Rattle.desk_entering.proofs.Crosses.{inside-sum}
use Rattle.zone_graph.proofs.Walks.{begins, begins-first, from_found, goes-on, one-less, sum-less}
use Rattle.desk_entering.proofs.Walk.{book-differ, line-any, line-few, line-found, number_of, some-left, walk-in}
use Rattle.desk_entering.proofs.crossing.crossing_lots_inside.Goals as goal

pub loop-next-init : goal.loop-next-init
loop-next-init c =
    let line = line_of c.args.book.now c.args.part (opposite c.args.taker.now.side) in
    let first : c.first-next.result ≡ first_of line = c.first-next.ensures ∙ ap (λ side. first_of (line_of c.args.book.now c.args.part side)) c.opposite.ensures in
    let whole = begins number_of line c.first-next.result first in
    let sum = ap (sum_by (lots_inside c.args.taker.now c.args.zones.now)) whole in
    let many = ap length whole in
    record { stands = begins-first number_of line c.first-next.result first; lots = omega (arith, sum); most = omega (arith, many) }

pub lots_inside-requires : goal.lots_inside-requires
lots_inside-requires c =
    let side = opposite c.args.taker.now.side in
    let there = walk-in (line_of c.args.book.now c.args.part side) c.loop-next.next c.in-Some.order c.in-Some.is c.loop-next.invariant.stands in
    c.len.ensures.sound.sound c.args.part side c.in-Some.order there

pub overflow_add-lots : goal.overflow_add-lots
overflow_add-lots c =
    let side = opposite c.args.taker.now.side in
    let some = some-left (line_of c.args.book.now c.args.part side) c.loop-next.next c.in-Some.order c.in-Some.is c.loop-next.invariant.stands in
    let few = line-few c.args.book.now c.len.ensures.sound c.args.part side in
    let most = c.loop-next.invariant.most in
    omega (arith, some, few, most)

pub after-next-requires : goal.after-next-requires
after-next-requires c =
    let side = opposite c.args.taker.now.side in
    let there = walk-in (line_of c.args.book.now c.args.part side) c.loop-next.next c.in-Some.order c.in-Some.is c.loop-next.invariant.stands in
    line-found c.args.book.now c.len.ensures.sound c.args.part side c.in-Some.order there

pub loop-next-smaller : goal.loop-next-smaller
loop-next-smaller c =
    let side = opposite c.args.taker.now.side in
    let line = line_of c.args.book.now c.args.part side in
    let there = walk-in line c.loop-next.next c.in-Some.order c.in-Some.is c.loop-next.invariant.stands in
    let any = line-any c.args.book.now c.len.ensures.sound c.args.part side c.in-Some.order there in
    let goes = goes-on number_of line c.loop-next.next c.after-next.result c.in-Some.order (book-differ c.args.book.now c.len.ensures.sound c.args.part side)
    c.in-Some.is c.loop-next.invariant.stands (c.after-next.ensures c.args.part side any) in
    let less = one-less number_of line c.loop-next.next c.after-next.result c.in-Some.order goes in
    omega (arith, less)

pub loop-next-preserved : goal.loop-next-preserved
loop-next-preserved c =
    let side = opposite c.args.taker.now.side in
    let line = line_of c.args.book.now c.args.part side in
    let there = walk-in line c.loop-next.next c.in-Some.order c.in-Some.is c.loop-next.invariant.stands in
    let any = line-any c.args.book.now c.len.ensures.sound c.args.part side c.in-Some.order there in
    let goes = goes-on number_of line c.loop-next.next c.after-next.result c.in-Some.order (book-differ c.args.book.now c.len.ensures.sound c.args.part side)
    c.in-Some.is c.loop-next.invariant.stands (c.after-next.ensures c.args.part side any) in
    let less = one-less number_of line c.loop-next.next c.after-next.result c.in-Some.order goes in
    let sum = sum-less number_of line c.loop-next.next c.after-next.result c.in-Some.order goes (lots_inside c.args.taker.now c.args.zones.now) in
    let lots = c.loop-next.invariant.lots in
    let most = c.loop-next.invariant.most in
    record {
      stands = goes.stands;
      lots = omega (arith, sum, lots);
      most = omega (arith, less, most);
    }

pub returns-clause-lots : goal.returns-clause-lots
returns-clause-lots c =
    let line = line_of c.args.book.now c.args.part (opposite c.args.taker.now.side) in
    let none = ap (sum_by (lots_inside c.args.taker.now c.args.zones.now)) (ap (from_found number_of line) c.in_default.is) in
    let lots = c.loop-next.invariant.lots in
    let total : c.loop-next.lots ≡ sum_by (lots_inside c.args.taker.now c.args.zones.now) line = omega (arith, none, lots) in
    total ∙ sym (inside-sum c.args.taker.now c.args.zones.now line)

pub returns-clause-most : goal.returns-clause-most
returns-clause-most c =
    let few = line-few c.args.book.now c.len.ensures.sound c.args.part (opposite c.args.taker.now.side) in
    let most = c.loop-next.invariant.most in
    omega (arith, few, most)
