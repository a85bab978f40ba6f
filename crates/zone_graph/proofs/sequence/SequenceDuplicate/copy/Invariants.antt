use Rattle.std.proofs.Common.{◌≡◌, take}
use Rattle.zone_graph.proofs.sequence.SequenceDuplicate.copy.Given as goal

-- the items so far are the first of the source
abbrev pub invariant-loop-item : goal.invariant-loop-item
invariant-loop-item g l = l.items.items ≡ take l.item-index l.item-items
