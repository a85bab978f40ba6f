use Rattle.std.proofs.Common.{◌≡◌, [], replicate}
use Rattle.local_view.proofs.part_views.empty_lists.Given as goal

-- as many empty rows as there were steps
abbrev pub invariant-loop : goal.invariant-loop
invariant-loop l = l.lists.items ≡ replicate l.counter []
