use Rattle.std.proofs.Common.{◌≡◌, take}
use Rattle.std.specs.List.{find}
use Rattle.plain_matching.specs.Over.{is_in_reach, other_line}
use Rattle.plain_matching.proofs.partner.first_among.Given as goal

-- the first of the orders so far
abbrev pub invariant-loop-other : goal.invariant-loop-other
invariant-loop-other l = l.first ≡ find (is_in_reach l.distances l.own) (other_line (take l.other-index l.orders) l.own)
