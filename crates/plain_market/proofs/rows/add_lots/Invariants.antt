use Rattle.std.proofs.Common.{◌≡◌, ◌++◌, drop, map, take}
use Rattle.laws_of_rows.specs.Filled.{with_lots}
use Rattle.plain_market.proofs.rows.add_lots.Given as goal

-- the lots are added to the rows so far that are the maker's
abbrev pub invariant-loop-row : goal.invariant-loop-row
invariant-loop-row l = l.rows ≡ map (with_lots l.maker l.lots) (take l.row-index l.fn.rows) ++ drop l.row-index l.fn.rows
