use Rattle.std.proofs.Common.{◌≡◌, take}
use Rattle.local_view.proofs.still_standing.are_borders.Given as goal

-- the borders so far have these zones
abbrev pub invariant-loop-border : goal.invariant-loop-border
invariant-loop-border l = take l.border l.ends ≡ take l.border l.grid.borders
