use Rattle.std.proofs.Common.{◌≡◌, ◌+◌, ◌*◌, ◌≤◌, length, sum_by}
use Rattle.order_kinds.specs.Side.{opposite}
use Rattle.contract_book.specs.Book.{first_of, line_of}
use Rattle.desk_entering.specs.Crossing.{lots_inside}
use Rattle.zone_graph.proofs.Walks.{from_found}
use Rattle.desk_entering.proofs.Walk.{number_of}
use Rattle.desk_entering.proofs.crossing.crossing_lots_inside.Given as goal

-- what crosses of the orders so far, and of those that are left of the line, is what crosses of the line
abbrev pub invariant-loop-next : goal.invariant-loop-next
invariant-loop-next l = record {
  stands : l.next ≡ first_of (from_found number_of (line_of l.book l.part (opposite l.taker.side)) l.next);
  lots : l.lots + sum_by (lots_inside l.taker l.zones) (from_found number_of (line_of l.book l.part (opposite l.taker.side)) l.next)
      ≡ sum_by (lots_inside l.taker l.zones) (line_of l.book l.part (opposite l.taker.side));
  most : l.lots + 4294967295 * length (from_found number_of (line_of l.book l.part (opposite l.taker.side)) l.next)
      ≤ 4294967295 * length (line_of l.book l.part (opposite l.taker.side));
}

-- fewer orders are left with each
abbrev pub decreases-loop-next : goal.decreases-loop-next
decreases-loop-next l = length (from_found number_of (line_of l.book l.part (opposite l.taker.side)) l.next)
