-- Orders that rest: how two of them stand in priority, when a record of one agrees with itself, and
-- what a fill and a reduction leave of it.
use Rattle.std.specs.Prelude.{◌≡◌, ℕ, ◌+◌, ◌-◌, ◌%◌, ◌<◌, ◌≤◌, ◌==◌, Option, Some, None, IsTrue, if◌then◌else◌}
use Rattle.std.specs.Ordering.{nat_cmp, ordering_then}
use Rattle.std.specs.declared.cmp.Ordering.{Ordering}
use Rattle.order_kinds.specs.declared.side.Side.{Side}
use Rattle.order_kinds.specs.Order.{last_peak, peak_number, peak_price}
use Rattle.order_kinds.specs.Price.{price_in_range}
use Rattle.order_kinds.specs.Side.{price_cmp}
use Rattle.iceberg_peak.specs.Peak.{peak_shown, showing_price}
use Rattle.contract_book.specs.declared.resting.Ice.{Ice}
use Rattle.contract_book.specs.declared.resting.Resting.{Resting}

-- priority on a side: the better price, then the earlier moment, then the smaller number
abbrev pub resting_cmp : Side → (one other : Resting) → Ordering
resting_cmp side one other =
    ordering_then (price_cmp side one.price other.price)
    (ordering_then (nat_cmp one.moment other.moment) (nat_cmp one.number other.number))

-- the record of an iceberg agrees with itself: it shows the peak that shows after what is filled, at
-- that peak's price, and each peak that is left has an allowed price
pub record IsIceberg (order : Resting) (ice : Ice) : Type 0 where
  pub some : 1 ≤ ice.peak
  pub left_is : order.left ≡ ice.total - ice.filled
  pub shown_is : order.shown ≡ peak_shown ice.peak ice.filled order.left
  pub price_is : order.price ≡ showing_price order.side ice.price ice.peak ice.delta ice.filled
  pub allowed : (number : ℕ) → peak_number ice.peak ice.filled ≤ number → number ≤ last_peak ice.total ice.peak
      → IsTrue (price_in_range (peak_price order.side ice.price ice.delta number))

-- an order that is no iceberg shows all that is left of it
abbrev pub AgreesWith : Resting → Option Ice → Type 0
AgreesWith order None = order.shown ≡ order.left
AgreesWith order (Some ice) = IsIceberg order ice

-- the record of an order that rests: something is left of it, and it agrees with itself
abbrev pub IsSound : Resting → Type 0
IsSound order = (0 < order.left) × AgreesWith order order.ice

-- the iceberg with so many more lots filled: it shows the peak that then shows, and has this moment
-- where whole peaks are filled, for then the showing peak is a new one
abbrev pub iceberg_after : Resting → Ice → (lots moment : ℕ) → Resting
iceberg_after order ice lots moment = record order {
  left = order.left - lots;
  shown = peak_shown ice.peak (ice.filled + lots) (order.left - lots);
  price = showing_price order.side ice.price ice.peak ice.delta (ice.filled + lots);
  moment = if (ice.filled + lots) % ice.peak == 0 then moment else order.moment;
  ice = Some (record ice { filled = ice.filled + lots });
}

-- the order with so many lots less, of which it shows all
abbrev pub order_less : Resting → (lots : ℕ) → Resting
order_less order lots = record order { left = order.left - lots; shown = order.left - lots }

-- the order after a fill of so many lots at a moment
abbrev pub order_after : Resting → (lots moment : ℕ) → Resting
order_after order lots moment = by_kind order.ice
  where
    by_kind : Option Ice → Resting
    by_kind None = order_less order lots
    by_kind (Some ice) = iceberg_after order ice lots moment
