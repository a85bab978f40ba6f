-- What an order shows, and at which price, while something is left of the peak that shows.
use Rattle.std.proofs.Common.{◌≡◌, ℕ, ◌+◌, ◌<◌, ◌≤◌, ◌%◌, false, refl, ap, arith}
use Rattle.std.proofs.lemmas.Bool.{ne_eqb}
use Rattle.order_kinds.specs.declared.order.Kind.{Kind}
use Rattle.order_kinds.specs.declared.order.Kind.TheVariants as kind
use Rattle.order_kinds.specs.declared.order.Order.{Order}
use Rattle.order_kinds.specs.Order.{peak_price}
use Rattle.iceberg_peak.proofs.PeakLemmas.{filled-within_peak, peak_number-stays}
use Rattle.market_model.specs.Orders.{ends_peak, price_now, shown_lots}
use Rattle.laws_of_market.proofs.Replaced.{of_kind}

-- no peak ends before all that shows is filled
pub peak-open : (k : Kind) (filled left taken : ℕ) → 1 ≤ taken → taken < shown_lots k filled left → ends_peak k (filled + taken) ≡ false
peak-open (kind.Iceberg peak delta) filled left taken some fewer =
    let within = filled-within_peak peak.0 filled taken (omega arith) in
    ne_eqb ((filled + taken) % peak.0) 0 (λ e. omega (arith, within, e, some))
peak-open kind.Limit filled left taken some fewer = refl
peak-open kind.Ioc filled left taken some fewer = refl
peak-open kind.Fok filled left taken some fewer = refl

price-of_kind : (k : Kind) (order : Order) (filled left taken : ℕ) → taken < shown_lots k filled left → price_now (of_kind k order) (filled + taken) ≡ price_now (of_kind k order) filled
unfolding of_kind
price-of_kind (kind.Iceberg peak delta) order filled left taken fewer = ap (peak_price order.side order.price delta) (peak_number-stays peak.0 filled taken (omega arith))
price-of_kind kind.Limit order filled left taken fewer = refl
price-of_kind kind.Ioc order filled left taken fewer = refl
price-of_kind kind.Fok order filled left taken fewer = refl

pub price-stays : (order : Order) (filled left taken : ℕ) → taken < shown_lots order.kind filled left → price_now order (filled + taken) ≡ price_now order filled
unfolding of_kind
price-stays order filled left taken fewer = price-of_kind order.kind order filled left taken fewer

-- where nothing is left but what shows, the rest of it shows
pub rest-shows : (k : Kind) (filled left taken rest : ℕ) → 1 ≤ rest → rest + taken ≡ shown_lots k filled left → shown_lots k (filled + taken) rest ≡ rest
rest-shows (kind.Iceberg peak delta) filled left taken rest some all =
    let within = filled-within_peak peak.0 filled taken (omega arith) in omega (arith, within, all, some)
rest-shows kind.Limit filled left taken rest some all = refl
rest-shows kind.Ioc filled left taken rest some all = refl
rest-shows kind.Fok filled left taken rest some all = refl
