-- The best prices of the lines of all parts of an hour.
use Rattle.std.specs.Prelude.{◌≡◌, ℕ, Bool, true, ◌==◌, ◌&&◌, List, None, slice_index_or}
use Rattle.order_kinds.specs.declared.contract.Contract.{Contract}
use Rattle.order_kinds.specs.declared.contract.Part.{Part}
use Rattle.order_kinds.specs.declared.side.Side.TheVariants.{Buy, Sell}
use Rattle.order_kinds.specs.Contract.{is_known, part_number}
use Rattle.market_model.specs.Orders.{Standing}
use Rattle.plain_orders.specs.declared.part_prices.BestPrices.{BestPrices}
use Rattle.plain_orders.specs.Listed.{best_price, best_with}

-- the contract of a part of an hour
abbrev pub contract_of : (hour : ℕ) → Part → Contract
contract_of hour part = record { hour = hour; part = part }

-- a contract is one of the parts of an hour
abbrev pub is_part_of : (hour : ℕ) → Contract → Bool
is_part_of hour contract = (contract.hour == hour) && is_known contract.part

-- the best prices of a contract of which there is no order
abbrev pub no_prices : BestPrices
no_prices = record { buy = None; sell = None }

-- the best prices of a contract so far, with an order that may be of one of its lines
abbrev pub prices_with : Contract → Standing → BestPrices → BestPrices
prices_with contract order prices = record { buy = best_with contract Buy order prices.buy; sell = best_with contract Sell order prices.sell }

-- those that stand at the number of a part
abbrev pub prices_at : List BestPrices → Part → BestPrices
prices_at prices part = slice_index_or prices (part_number part) no_prices

-- these are the best prices of the lines of a contract that some orders make
pub record AreBestOf (orders : List Standing) (contract : Contract) (prices : BestPrices) : Type 0 where
  pub buy : prices.buy ≡ best_price orders contract Buy
  pub sell : prices.sell ≡ best_price orders contract Sell

-- and these are those of each part of an hour, by its number
pub record AreBestPrices (orders : List Standing) (hour : ℕ) (prices : List BestPrices) : Type 0 where
  pub each : (part : Part) → is_known part ≡ true → AreBestOf orders (contract_of hour part) (prices_at prices part)
