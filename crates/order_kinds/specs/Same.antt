-- Which contracts, sides and names are the same.
use Rattle.std.specs.Prelude.{Bool, true, false, ◌==◌, ◌&&◌}
use Rattle.order_kinds.specs.declared.contract.Contract.{Contract}
use Rattle.order_kinds.specs.declared.contract.Part.{Part}
use Rattle.order_kinds.specs.declared.contract.Part.TheVariants as part
use Rattle.order_kinds.specs.declared.order.OrderName.{OrderName}
use Rattle.order_kinds.specs.declared.side.Side.{Side}
use Rattle.order_kinds.specs.declared.side.Side.TheVariants.{Buy, Sell}

-- two parts of an hour are the same
abbrev pub same_part : Part → Part → Bool
same_part part.Hour part.Hour = true
same_part (part.Quarter a) (part.Quarter b) = a == b
same_part (part.Half a) (part.Half b) = a == b
same_part _ _ = false

-- two contracts are the same part of the same hour
abbrev pub same_contract : Contract → Contract → Bool
same_contract a b = (a.hour == b.hour) && same_part a.part b.part

-- two orders are on the same side
abbrev pub same_side : Side → Side → Bool
same_side Buy Buy = true
same_side Sell Sell = true
same_side _ _ = false

-- two names are of one order or block
abbrev pub same_name : OrderName → OrderName → Bool
same_name a b = (a.hour == b.hour) && (a.number == b.number)
