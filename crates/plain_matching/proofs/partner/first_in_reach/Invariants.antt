use Rattle.std.proofs.Common.{◌≡◌, drop}
use Rattle.std.specs.List.{find}
use Rattle.plain_matching.specs.Over.{is_in_reach}
use Rattle.plain_matching.proofs.partner.first_in_reach.Given as goal

-- none of the orders so far is in reach
abbrev pub invariant-loop-other : goal.invariant-loop-other
invariant-loop-other l = find (is_in_reach l.distances l.own) (drop l.other-index l.line) ≡ find (is_in_reach l.distances l.own) l.line
