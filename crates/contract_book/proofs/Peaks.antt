-- An iceberg of which some of what shows is filled agrees with itself again.
use Rattle.std.proofs.Common.{ℕ, ◌+◌, ◌-◌, ◌<◌, ◌≤◌, refl, arith}
use Rattle.std.specs.Prelude.{IsTrue}
use Rattle.order_kinds.specs.Order.{peak_number}
use Rattle.order_kinds.specs.Price.{price_in_range}
use Rattle.iceberg_peak.specs.Peak.{showing_price}
use Rattle.iceberg_peak.proofs.PeakLemmas.{number-rises}
use Rattle.contract_book.specs.declared.resting.Ice.{Ice}
use Rattle.contract_book.specs.declared.resting.Resting.{Resting}
use Rattle.contract_book.specs.Resting.{IsIceberg, IsSound, iceberg_after}

module _ (order : Resting) (ice : Ice) (iceberg : IsIceberg order ice) (lots : ℕ) (rest : lots < order.left) where
  fewer : ice.filled + lots ≤ ice.total - 1
  fewer = omega (arith, rest, iceberg.left_is)

  -- the next peak has an allowed price
  pub showing-allowed : IsTrue (price_in_range (showing_price order.side ice.price ice.peak ice.delta (ice.filled + lots)))
  showing-allowed =
      iceberg.allowed (peak_number ice.peak (ice.filled + lots)) (number-rises ice.peak ice.filled (ice.filled + lots) iceberg.some (omega arith))
      (number-rises ice.peak (ice.filled + lots) (ice.total - 1) iceberg.some fewer)

  pub iceberg_after-sound : (moment : ℕ) → IsSound (iceberg_after order ice lots moment)
  iceberg_after-sound moment = (
    omega (arith, rest),
    record {
      some = iceberg.some;
      left_is = omega (arith, iceberg.left_is);
      shown_is = refl;
      price_is = refl;
      allowed = λ number low high. iceberg.allowed number (let before = number-rises ice.peak ice.filled (ice.filled + lots) iceberg.some (omega arith) in omega (arith, before, low)) high;
    },
  )
