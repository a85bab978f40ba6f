-- What an order shows as it takes, and what a fill leaves of it.
use Rattle.std.proofs.Common.{◌≡◌, ◌∙◌, ℕ, zero, suc, ◌+◌, ◌-◌, ◌/◌, ◌%◌, ◌<◌, ◌≤◌, ◌==◌, refl, sym, ap, if◌then◌else◌, arith}
use Rattle.order_kinds.specs.declared.order.Kind.{Kind}
use Rattle.order_kinds.specs.declared.order.Kind.TheVariants as kind
use Rattle.order_kinds.specs.declared.order.Order.{Order}
use Rattle.order_kinds.specs.declared.price.Lots.{Lots}
use Rattle.order_kinds.specs.declared.price.Price.{Price}
use Rattle.order_kinds.specs.Order.{peak_price}
use Rattle.iceberg_peak.proofs.PeakLemmas.{peak_number-stays}
use Rattle.contract_book.specs.Resting.{AgreesWith, IsSound}
use Rattle.contract_book.proofs.Peaks.{showing-allowed}
use Rattle.market_model.specs.Orders.{Placed, ends_peak, price_now, shown_lots}
use Rattle.laws_of_maximum.proofs.CrossingPeaks.{HasPeaks}
use Rattle.laws_of_books.specs.BookOf.{ice_of, resting_of}
use Rattle.laws_of_books.proofs.Untouched.{standing_at}
use Rattle.match_core.specs.declared.taker.Taker.{Taker}
use Rattle.match_core.specs.Takers.{CanFill, CanHide, HasLots, after_fill, price_at, shown_by, taker_at}

-- an order with a kind
abbrev of_kind : Placed → Kind → Placed
of_kind order given = record order { order = record order.order { kind = given } }

-- ---- what it shows

kind-shows : (order : Placed) (given : Kind) (filled left : ℕ) → shown_by (ice_of (of_kind order given).order filled) left ≡ shown_lots given filled left
kind-shows order kind.Limit filled left = refl
kind-shows order kind.Ioc filled left = refl
kind-shows order kind.Fok filled left = refl
kind-shows order (kind.Iceberg peak delta) filled left = refl

pub shown-is : (order : Placed) (filled left : ℕ) → shown_by (ice_of order.order filled) left ≡ shown_lots order.order.kind filled left
shown-is order filled left = kind-shows order order.order.kind filled left

kind-has_lots : (order : Placed) (given : Kind) (filled : ℕ) → HasPeaks given → HasLots (ice_of (of_kind order given).order filled)
kind-has_lots order kind.Limit filled has = tt
kind-has_lots order kind.Ioc filled has = tt
kind-has_lots order kind.Fok filled has = tt
kind-has_lots order (kind.Iceberg peak delta) filled has = has

pub has_lots : (order : Placed) (filled : ℕ) → HasPeaks order.order.kind → HasLots (ice_of order.order filled)
has_lots order filled has = kind-has_lots order order.order.kind filled has

-- no more than is left
pub shown-within : (given : Kind) (filled left : ℕ) → shown_lots given filled left ≤ left
shown-within kind.Limit filled left = omega arith
shown-within kind.Ioc filled left = omega arith
shown-within kind.Fok filled left = omega arith
shown-within (kind.Iceberg peak delta) filled left = omega arith

-- its price while something is left
pub price-left : (order : Order) (filled left : ℕ) → 0 < left → price_at order filled left ≡ price_now order filled
price-left order filled zero some = absurd (omega arith)
price-left order filled (suc more) some = refl

-- ---- what a fill leaves

-- an order that is no iceberg keeps its price
limit-price : (order : Order) → ((filled : ℕ) → price_now order filled ≡ order.price) → (filled left : ℕ) → price_at order filled left ≡ order.price
limit-price order plain filled zero = plain (filled - 1)
limit-price order plain filled (suc more) = plain filled

-- with a price
abbrev priced : Taker → Price → Taker
priced taker price = record taker { price = price }

plain-filled : (order : Placed) (filled left lots later old : ℕ) → ((filled : ℕ) → price_now order.order filled ≡ order.order.price)
    → priced (taker_at order (filled + lots) (left - lots) old) (price_at order.order (filled + lots) (left - lots))
    ≡ priced (taker_at order (filled + lots) (left - lots) old) (price_at order.order filled left)
plain-filled order filled left lots later old plain =
    ap (priced (taker_at order (filled + lots) (left - lots) old))
    (limit-price order.order plain (filled + lots) (left - lots) ∙ sym (limit-price order.order plain filled left))

module _ (order : Placed) (peak : Lots) (delta filled lots later old : ℕ) (has : 1 ≤ peak.0) (some : 1 ≤ lots) where
  abbrev ice_order : Placed
  ice_order = of_kind order (kind.Iceberg peak delta)

  -- the last lot of the fill is of the peak that showed
  last-price : lots ≤ peak.0 - filled % peak.0
      → price_now ice_order.order ((filled + lots) - 1) ≡ price_now ice_order.order filled
  last-price most =
      let last : (filled + lots) - 1 ≡ filled + (lots - 1) = omega arith in
      let same : ((filled + lots) - 1) / peak.0 ≡ filled / peak.0 = ap (λ n. n / peak.0) last ∙ peak_number-stays peak.0 filled (lots - 1) (omega arith) in
      ap (peak_price order.order.side order.order.price delta) same

  iceberg-filled : (left rest : ℕ) → rest ≡ left - lots → lots ≤ shown_lots (kind.Iceberg peak delta) filled left
      → taker_at ice_order (filled + lots) rest (if (filled + lots) % peak.0 == 0 then later else old)
      ≡ after_fill (taker_at ice_order filled left old) lots later
  iceberg-filled left zero is most =
      let own : price_at ice_order.order filled left ≡ price_now ice_order.order filled = price-left ice_order.order filled left (omega (arith, most)) in
      let same = last-price (omega (arith, most)) ∙ sym own in
      rw (← is) (ap (priced (taker_at ice_order (filled + lots) 0 (if (filled + lots) % peak.0 == 0 then later else old))) same)
  iceberg-filled left (suc more) is most = rw (← is) refl

kind-filled : (order : Placed) (given : Kind) (filled left lots later old : ℕ) → HasPeaks given → 1 ≤ lots → lots ≤ shown_lots given filled left
    → taker_at (of_kind order given) (filled + lots) (left - lots) (if ends_peak given (filled + lots) then later else old)
    ≡ after_fill (taker_at (of_kind order given) filled left old) lots later
kind-filled order kind.Limit filled left lots later old has some most = plain-filled (of_kind order kind.Limit) filled left lots later old (λ n. refl)
kind-filled order kind.Ioc filled left lots later old has some most = plain-filled (of_kind order kind.Ioc) filled left lots later old (λ n. refl)
kind-filled order kind.Fok filled left lots later old has some most = plain-filled (of_kind order kind.Fok) filled left lots later old (λ n. refl)
kind-filled order (kind.Iceberg peak delta) filled left lots later old has some most =
    iceberg-filled order peak delta filled lots later old has some left (left - lots) refl most

pub filled-is : (order : Placed) (filled left lots later old : ℕ) → HasPeaks order.order.kind → 1 ≤ lots → lots ≤ shown_lots order.order.kind filled left
    → taker_at order (filled + lots) (left - lots) (if ends_peak order.order.kind (filled + lots) then later else old)
    ≡ after_fill (taker_at order filled left old) lots later
filled-is order filled left lots later old has some most = kind-filled order order.order.kind filled left lots later old has some most

-- ---- what can be filled

kind-hides : (order : Placed) (given : Kind) (filled left moment lots : ℕ) → 0 < left → lots ≤ left
    → AgreesWith (resting_of (standing_at (of_kind order given) filled left moment)) (ice_of (of_kind order given).order filled)
    → CanHide (taker_at (of_kind order given) filled left moment) lots (ice_of (of_kind order given).order filled)
kind-hides order kind.Limit filled left moment lots some within agrees = tt
kind-hides order kind.Ioc filled left moment lots some within agrees = tt
kind-hides order kind.Fok filled left moment lots some within agrees = tt
kind-hides order (kind.Iceberg peak delta) filled left moment lots some within agrees = (
  omega (arith, agrees.left_is),
  record {
    some = agrees.some;
    allowed = λ rest. showing-allowed (resting_of (standing_at (of_kind order (kind.Iceberg peak delta)) filled left moment))
        (record { price = order.order.price; total = order.order.quantity.0; peak = peak.0; delta = delta; filled = filled })
        agrees lots (omega (arith, rest));
  },
)

pub can-fill : (order : Placed) (filled left moment lots : ℕ) → IsSound (resting_of (standing_at order filled left moment)) → lots ≤ left
    → CanFill (taker_at order filled left moment) lots
can-fill order filled left moment lots sound within = record {
  within = within;
  hides = kind-hides order order.order.kind filled left moment lots sound.0 within sound.1;
}
