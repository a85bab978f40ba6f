use Rattle.std.proofs.Common.{◌≡◌, take}
use Rattle.hour_desk.proofs.copying.rows_of.Given as goal

-- the rows so far are copied
abbrev pub invariant-loop-row : goal.invariant-loop-row
invariant-loop-row l = l.made ≡ take l.row-index l.rows
