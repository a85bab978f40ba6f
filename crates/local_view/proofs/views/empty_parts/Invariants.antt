use Rattle.std.proofs.Common.{◌≡◌, replicate}
use Rattle.local_view.specs.Kept.{empty_part}
use Rattle.local_view.proofs.views.empty_parts.Given as goal

-- as many empty parts as there were steps
abbrev pub invariant-loop : goal.invariant-loop
invariant-loop l = l.made.items ≡ replicate l.counter (empty_part l.zones)
