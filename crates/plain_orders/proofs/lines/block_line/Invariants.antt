use Rattle.std.proofs.Common.{◌≡◌, filter, take}
use Rattle.plain_orders.specs.Listed as listed
use Rattle.plain_orders.proofs.lines.block_line.Given as goal

abbrev pub invariant-loop-block : goal.invariant-loop-block
invariant-loop-block l = l.line.items ≡ filter (listed.is_in_block_line l.first l.last l.side) (take l.block-index l.blocks)
