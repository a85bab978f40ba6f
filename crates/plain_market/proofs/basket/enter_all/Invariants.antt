use Rattle.std.proofs.Common.{drop}
use Rattle.plain_market.proofs.Baskets.{IsEntered}
use Rattle.plain_market.proofs.basket.enter_all.Given as goal

-- the orders so far entered
abbrev pub invariant-loop-order : goal.invariant-loop-order
invariant-loop-order l = IsEntered l.grid l.caller l.orders (drop l.order-index l.orders) l.initial.events l.events
