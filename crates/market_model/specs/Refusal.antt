-- What a fault of an order's own numbers is called in a refusal.
use Rattle.order_kinds.specs.declared.order.OrderFault.{OrderFault}
use Rattle.order_kinds.specs.declared.order.OrderFault.TheVariants as fault
use Rattle.market_model.specs.declared.refusal.Refusal.{Refusal}
use Rattle.market_model.specs.declared.refusal.Refusal.TheVariants as refusal

abbrev pub refusal_of : OrderFault → Refusal
refusal_of fault.PriceOutOfRange = refusal.PriceOutOfRange
refusal_of fault.QuantityOutOfRange = refusal.QuantityOutOfRange
refusal_of fault.BadPeak = refusal.BadPeak
