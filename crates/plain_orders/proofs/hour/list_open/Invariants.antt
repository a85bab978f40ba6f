use Rattle.std.proofs.Common.{◌≡◌, take}
use Rattle.plain_orders.specs.Tallies.{entries}
use Rattle.plain_orders.proofs.Placing.{open_among}
use Rattle.plain_orders.proofs.hour.list_open.Given as goal

-- the open ones of the orders so far
abbrev pub invariant-loop-tally : goal.invariant-loop-tally
invariant-loop-tally l = l.standing.items ≡ open_among l.events l.hour (take l.tally-index (entries l.hour l.events))
