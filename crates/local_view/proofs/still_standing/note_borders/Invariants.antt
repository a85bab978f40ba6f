use Rattle.std.proofs.Common.{◌≡◌, take}
use Rattle.local_view.proofs.still_standing.note_borders.Given as goal

-- the zones of the borders so far are noted
abbrev pub invariant-loop-border : goal.invariant-loop-border
invariant-loop-border l = l.ends.items ≡ take l.border l.grid.borders
