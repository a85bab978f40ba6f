use Rattle.std.proofs.Common.{◌≡◌, drop}
use Rattle.plain_orders.specs.Owned as owned
use Rattle.plain_orders.proofs.owning.placed_block.Given as goal

abbrev pub invariant-loop-event : goal.invariant-loop-event
invariant-loop-event l = owned.block_placed_as (drop l.event-index l.events) l.name ≡ owned.block_placed_as l.events l.name
