use Rattle.std.proofs.Common.{◌≡◌, length, take}
use Rattle.plain_orders.specs.Prices.{AreBestPrices}
use Rattle.plain_orders.proofs.part_prices.PartPrices.of.Given as goal

-- the best prices of the orders so far
abbrev pub invariant-loop-order : goal.invariant-loop-order
invariant-loop-order l = record {
  size : length l.prices ≡ 7;
  best : AreBestPrices (take l.order-index l.orders) l.hour l.prices;
}
