-- What an order with sound numbers keeps.
use Rattle.std.proofs.Common.{◌≡◌, ℕ, ◌≤◌, ◌&&◌, Bool, true, false, Option, None, nat_lt, nat_le, refl, arith}
use Rattle.std.proofs.lemmas.Bool.{leb-true, ltb-true, and_parts}
use Rattle.order_kinds.specs.declared.order.BlockOrder.{BlockOrder}
use Rattle.order_kinds.specs.declared.order.Kind.{Kind}
use Rattle.order_kinds.specs.declared.order.Kind.TheVariants as kind
use Rattle.order_kinds.specs.declared.order.Order.{Order}
use Rattle.order_kinds.specs.declared.order.OrderFault.{OrderFault}
use Rattle.order_kinds.specs.declared.price.Lots.{Lots}
use Rattle.order_kinds.specs.Order.{fault_unless, has_allowed_peaks, order_fault, block_fault, peak_count, peaks_allowed, last_peak_price}
use Rattle.order_kinds.specs.Price.{lots_in_range, price_in_range}
use Rattle.market_model.specs.Orders.{shown_lots}

fault_unless-none : (b : Bool) (fault : OrderFault) (following : Option OrderFault) → fault_unless b fault following ≡ None → (b ≡ true) × (following ≡ None)
fault_unless-none true fault following e = (refl, e)
fault_unless-none false fault following e = absurd (cc)

-- a sound order's price and quantity are in range, and its peaks are allowed
pub record NumbersAreSound (order : Order) : Type 0 where
  pub price : price_in_range order.price ≡ true
  pub quantity : lots_in_range order.quantity ≡ true
  pub peaks : has_allowed_peaks order ≡ true

pub order_fault-none : (order : Order) → order_fault order ≡ None → NumbersAreSound order
order_fault-none order e =
    let price = fault_unless-none (price_in_range order.price) _ _ e in
    let quantity = fault_unless-none (lots_in_range order.quantity) _ _ price.1 in
    let peaks = fault_unless-none (has_allowed_peaks order) _ _ quantity.1 in
    record { price = price.0; quantity = quantity.0; peaks = peaks.0 }

-- an iceberg's peak is at least a lot
pub peak-some : (order : Order) (peak : Lots) (delta : ℕ) → order.kind ≡ kind.Iceberg peak delta → has_allowed_peaks order ≡ true → 1 ≤ peak.0
peak-some order peak delta is allowed =
    let peaks : peaks_allowed order.side order.price order.quantity.0 peak.0 delta ≡ true = rw is at allowed in
    let a = and_parts (nat_lt 0 peak.0 && nat_lt peak.0 order.quantity.0 && nat_le (peak_count order.quantity.0 peak.0) 100)
    (price_in_range (last_peak_price order.side order.price order.quantity.0 peak.0 delta)) peaks in
    let b = and_parts (nat_lt 0 peak.0 && nat_lt peak.0 order.quantity.0) (nat_le (peak_count order.quantity.0 peak.0) 100) a.0 in
    let c = and_parts (nat_lt 0 peak.0) (nat_lt peak.0 order.quantity.0) b.0 in
    ltb-true 0 peak.0 c.0

-- a sound order of which something is left shows something
pub shown-some : (order : Order) → order_fault order ≡ None → (filled left : ℕ) → 1 ≤ left → 1 ≤ shown_lots order.kind filled left
shown-some order sound filled left some = go order.kind refl
  where
    go : (k : Kind) → order.kind ≡ k → 1 ≤ shown_lots k filled left
    go kind.Limit is = some
    go kind.Ioc is = some
    go kind.Fok is = some
    go (kind.Iceberg peak delta) is =
        let least = peak-some order peak delta is (order_fault-none order sound).peaks in omega arith

-- a quantity in range
pub lots_in_range-bounds : (lots : Lots) → lots_in_range lots ≡ true → (1 ≤ lots.0) × (lots.0 ≤ 9990)
lots_in_range-bounds lots h =
    let both = and_parts (nat_le 1 lots.0) (nat_le lots.0 9990) h in
    (leb-true 1 lots.0 both.0, leb-true lots.0 9990 both.1)

-- a sound block's price and quantity are in range
pub record BlockNumbersAreSound (order : BlockOrder) : Type 0 where
  pub price : price_in_range order.price ≡ true
  pub quantity : lots_in_range order.quantity ≡ true

pub block_fault-none : (order : BlockOrder) → block_fault order ≡ None → BlockNumbersAreSound order
block_fault-none order e =
    let price = fault_unless-none (price_in_range order.price) _ _ e in
    let quantity = fault_unless-none (lots_in_range order.quantity) _ _ price.1 in
    record { price = price.0; quantity = quantity.0 }

-- and numbers in range make an order or a block sound
pub order_fault-sound : (order : Order) → price_in_range order.price ≡ true → lots_in_range order.quantity ≡ true → has_allowed_peaks order ≡ true → order_fault order ≡ None
order_fault-sound order price quantity peaks = rw (price, quantity, peaks) refl

pub block_fault-sound : (order : BlockOrder) → price_in_range order.price ≡ true → lots_in_range order.quantity ≡ true → block_fault order ≡ None
block_fault-sound order price quantity = rw (price, quantity) refl
