use Rattle.std.proofs.Common.{◌≡◌, map, take}
use Rattle.std.specs.List.{filter_map}
use Rattle.market_model.specs.Blocks.{standing_block}
use Rattle.plain_orders.specs.Listed.{block_given}
use Rattle.plain_orders.proofs.hour.blocks_of.Given as goal

abbrev pub invariant-loop-event : goal.invariant-loop-event
invariant-loop-event l = l.blocks.items ≡ map (standing_block l.events) (filter_map (block_given l.first) (take l.event-index l.event-items))
