use Rattle.std.proofs.Common.{◌≡◌, drop}
use Rattle.std.specs.List.{find}
use Rattle.plain_market.specs.InReach.{is_in_reach}
use Rattle.plain_market.proofs.filling.first_in_reach.Given as goal

-- none of the makers so far is in reach
abbrev pub invariant-loop-maker : goal.invariant-loop-maker
invariant-loop-maker l = find (is_in_reach l.distances l.side) (drop l.maker-index l.makers) ≡ find (is_in_reach l.distances l.side) l.makers
