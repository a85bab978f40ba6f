use Rattle.std.proofs.Common.{◌≡◌, map, take}
use Rattle.laws_of_rows.specs.Filled.{row_in}
use Rattle.plain_market.proofs.rows.rows_of.Given as goal

-- the rows so far
abbrev pub invariant-loop-maker : goal.invariant-loop-maker
invariant-loop-maker l = l.rows ≡ map row_in (take l.maker-index l.makers)
