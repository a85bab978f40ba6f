-- What crosses of an order, peak by peak: a leg of it takes its lots from that, and where the price
-- that shows does not cross nothing of it does.
use Rattle.std.proofs.Common.{◌≡◌, ◌≢◌, ◌∙◌, ◌⊎◌, inl, inr, ℕ, zero, suc, ◌+◌, ◌-◌, ◌*◌, ◌/◌, ◌%◌, ◌<◌, ◌≤◌, ◌==◌, Bool, true, false, sum_by, ℤ, pos, ◌+ℤ◌, ◌-ℤ◌, ◌≤ℤ◌, int_le, nat_lt, eq-eqb, eqb-true, refl, sym, ap, subst, if◌then◌else◌, arith}
use Rattle.std.proofs.Math.Nat.{div-add-mod, mul-le-mul_left}
use Rattle.std.proofs.lemmas.Bool.{cases_eq, cases_lt, lt-ltb, ne_eqb, true≢false}
use Rattle.std.proofs.lemmas.List.Sums.{sum_by-cons}
use Rattle.std.proofs.lemmas.Nat.{mod_below}
use Rattle.std.specs.List.{range_with_len}
use Rattle.iceberg_peak.specs.Peak.{peak_left}
use Rattle.iceberg_peak.proofs.PeakLemmas.{peak_count-covers}
use Rattle.order_kinds.specs.declared.order.Kind.{Kind}
use Rattle.order_kinds.specs.declared.order.Kind.TheVariants as kind
use Rattle.order_kinds.specs.declared.order.Order.{Order}
use Rattle.order_kinds.specs.declared.price.Price.{Price}
use Rattle.order_kinds.specs.declared.side.Side.{Side}
use Rattle.order_kinds.specs.declared.side.Side.TheVariants.{Buy, Sell}
use Rattle.order_kinds.specs.Order.{peak_count, peak_price}
use Rattle.order_kinds.specs.Side.{crosses, opposite}
use Rattle.zone_graph.specs.Pour.{lots_if}
use Rattle.cut_proof.proofs.ArcSums.{sum_nothing, sum_parts}
use Rattle.market_model.specs.Certificate.{crosses_left}
use Rattle.market_model.specs.Orders.{price_now, shown_lots}

-- ---- peaks by their numbers

-- a fill within the showing peak takes its lots from that peak alone
peak-falls : (total peak filled lots number : ℕ) → 1 ≤ peak → lots ≤ peak - filled % peak → filled + lots ≤ total
    → peak_left total peak filled number ≡ peak_left total peak (filled + lots) number + lots_if (number == filled / peak) lots
peak-falls total peak filled lots number some fewer within =
    elim (cases_lt number (filled / peak)) [
      | inl before ↦
          let far : peak * (number + 1) ≤ peak * (filled / peak) = mul-le-mul_left peak (omega (arith, before)) in
          let other : lots_if (number == filled / peak) lots ≡ 0 = ap (λ b. lots_if b lots) (ne_eqb number (filled / peak) (λ e. omega (arith, before, e))) in
          omega (arith, far, other, div-add-mod filled peak)
      | inr least ↦ at_least (cases_eq number (filled / peak)) least
    ]
  where
    at_least : (number ≡ filled / peak) ⊎ (number ≢ filled / peak) → filled / peak ≤ number
        → peak_left total peak filled number ≡ peak_left total peak (filled + lots) number + lots_if (number == filled / peak) lots
    at_least (inl same) least =
        let own : lots_if (number == filled / peak) lots ≡ lots = ap (λ b. lots_if b lots) (eq-eqb number (filled / peak) same) in
        let here : peak * number ≡ peak * (filled / peak) = ap (λ n. peak * n) same in
        let below = mod_below filled peak some in
        omega (arith, own, here, div-add-mod filled peak, below)
    at_least (inr apart) least =
        let other : lots_if (number == filled / peak) lots ≡ 0 = ap (λ b. lots_if b lots) (ne_eqb number (filled / peak) apart) in
        let far : peak * (filled / peak + 1) ≤ peak * number = mul-le-mul_left peak (more least apart) in
        let below = mod_below filled peak some in
        omega (arith, other, far, div-add-mod filled peak, below)
      where
        more : filled / peak ≤ number → number ≢ filled / peak → filled / peak + 1 ≤ number
        more low differ = omega arith

-- a peak before the one that shows is empty
peak-empty : (total peak filled number : ℕ) → number < filled / peak → peak_left total peak filled number ≡ 0
peak-empty total peak filled number before =
    let far : peak * (number + 1) ≤ peak * (filled / peak) = mul-le-mul_left peak (omega (arith, before)) in
    omega (arith, far, div-add-mod filled peak)

-- the sum of what counts at one number of a range
sum_before : (number first count lots : ℕ) → number < first → sum_by (λ n. lots_if (n == number) lots) (range_with_len first count) ≡ 0
sum_before number first zero lots past = refl
sum_before number first (suc count) lots past =
    let other : lots_if (first == number) lots ≡ 0 = ap (λ b. lots_if b lots) (ne_eqb first number (λ e. omega (arith, past, e))) in
    omega (arith, sum_by-cons (λ n. lots_if (n == number) lots) first (range_with_len (first + 1) count), other, sum_before number (first + 1) count lots (omega (arith, past)))

sum_at_number : (number first count lots : ℕ) → first ≤ number → number < first + count → sum_by (λ n. lots_if (n == number) lots) (range_with_len first count) ≡ lots
sum_at_number number first zero lots least most = absurd (omega (arith, least, most))
sum_at_number number first (suc count) lots least most = by (cases_eq first number) (sum_at_number number (first + 1) count lots)
  where
    by : (first ≡ number) ⊎ (first ≢ number) → (first + 1 ≤ number → number < first + 1 + count → sum_by (λ n. lots_if (n == number) lots) (range_with_len (first + 1) count) ≡ lots)
        → sum_by (λ n. lots_if (n == number) lots) (range_with_len first (suc count)) ≡ lots
    by (inl same) later =
        let own : lots_if (first == number) lots ≡ lots = ap (λ b. lots_if b lots) (eq-eqb first number same) in
        omega (arith, sum_by-cons (λ n. lots_if (n == number) lots) first (range_with_len (first + 1) count), own, sum_before number (first + 1) count lots (omega (arith, same)))
    by (inr apart) later =
        let other : lots_if (first == number) lots ≡ 0 = ap (λ b. lots_if b lots) (ne_eqb first number apart) in
        let more : first + 1 ≤ number = step least apart in
        omega (arith, sum_by-cons (λ n. lots_if (n == number) lots) first (range_with_len (first + 1) count), other, later more (omega (arith, most)))
      where
        step : first ≤ number → first ≢ number → first + 1 ≤ number
        step low differ = omega arith

-- what crosses of the peaks of an iceberg, by a test of their numbers
abbrev pub peaks_crossing : (ℕ → Bool) → (total peak filled : ℕ) → ℕ
peaks_crossing cross total peak filled =
    sum_by (λ number. lots_if (cross number) (peak_left total peak filled number)) (range_with_len 0 (peak_count total peak))

parted_if : (b : Bool) (all rest lots : ℕ) → all ≡ rest + lots → lots_if b all ≡ lots_if b rest + lots_if b lots
parted_if true all rest lots e = e
parted_if false all rest lots e = refl

-- a fill within the showing peak, which crosses, takes its lots from what crosses
peaks-fall : (cross : ℕ → Bool) (total peak filled lots : ℕ) → 1 ≤ peak → 1 ≤ lots → lots ≤ peak - filled % peak → filled + lots ≤ total
    → cross (filled / peak) ≡ true → peaks_crossing cross total peak filled ≡ peaks_crossing cross total peak (filled + lots) + lots
peaks-fall cross total peak filled lots some_peak some fewer within crossing =
    let numbers = range_with_len 0 (peak_count total peak) in
    let parts = sum_parts (λ n. lots_if (cross n) (peak_left total peak filled n)) (λ n. lots_if (cross n) (peak_left total peak (filled + lots) n)) (λ n. lots_if (n == filled / peak) lots) numbers each in
    let covered = peak_count-covers total peak some_peak in
    let one = sum_at_number (filled / peak) 0 (peak_count total peak) lots (omega arith) (below covered) in
    omega (arith, parts, one)
  where
    each : (n : ℕ) → lots_if (cross n) (peak_left total peak filled n) ≡ lots_if (cross n) (peak_left total peak (filled + lots) n) + lots_if (n == filled / peak) lots
    each n =
        parted_if (cross n) (peak_left total peak filled n) (peak_left total peak (filled + lots) n) (lots_if (n == filled / peak) lots) (peak-falls total peak filled lots n some_peak fewer within)
        ∙ ap (λ k. lots_if (cross n) (peak_left total peak (filled + lots) n) + k) (by (n == filled / peak) refl)
      where
        by : (b : Bool) → (n == filled / peak) ≡ b → lots_if (cross n) (lots_if b lots) ≡ lots_if b lots
        by true e = ap (λ c. lots_if c lots) (ap cross (eqb-true n (filled / peak) e) ∙ crossing)
        by false e = nothing (cross n)
          where
            nothing : (c : Bool) → lots_if c 0 ≡ 0
            nothing true = refl
            nothing false = refl

    below : total ≤ peak * peak_count total peak → filled / peak < 0 + peak_count total peak
    below covered = elim (cases_lt (filled / peak) (peak_count total peak)) [
      | inl less ↦ omega (arith, less)
      | inr past ↦
          let far : peak * peak_count total peak ≤ peak * (filled / peak) = mul-le-mul_left peak past in
          absurd (omega (arith, far, covered, div-add-mod filled peak, within, some))
    ]

-- of an iceberg that is filled nothing crosses
peaks-filled : (cross : ℕ → Bool) (total peak : ℕ) → peaks_crossing cross total peak total ≡ 0
peaks-filled cross total peak =
    sum_nothing (λ n. lots_if (cross n) (peak_left total peak total n)) (range_with_len 0 (peak_count total peak)) (λ n i. by (cross n) n)
  where
    by : (b : Bool) (n : ℕ) → lots_if b (peak_left total peak total n) ≡ 0
    by true n = omega arith
    by false n = refl

-- where no peak from the showing one on crosses, nothing does
peaks-none : (cross : ℕ → Bool) (total peak filled : ℕ) → ((n : ℕ) → filled / peak ≤ n → cross n ≡ false) → peaks_crossing cross total peak filled ≡ 0
peaks-none cross total peak filled none =
    sum_nothing (λ n. lots_if (cross n) (peak_left total peak filled n)) (range_with_len 0 (peak_count total peak)) (λ n i. by n (cases_lt n (filled / peak)))
  where
    empty : (b : Bool) (n : ℕ) → peak_left total peak filled n ≡ 0 → lots_if b (peak_left total peak filled n) ≡ 0
    empty true n e = e
    empty false n e = refl

    by : (n : ℕ) → (n < filled / peak) ⊎ (filled / peak ≤ n) → lots_if (cross n) (peak_left total peak filled n) ≡ 0
    by n (inl before) = empty (cross n) n (peak-empty total peak filled n before)
    by n (inr least) = ap (λ b. lots_if b (peak_left total peak filled n)) (none n least)

-- ---- prices of further peaks

-- a whole number that is no more than another is so by the test, and the other way round
int_le-from : (a b : ℤ) → int_le a b ≡ true → a ≤ℤ b
int_le-from a b h = grind (arith, h)

int_le-to : (a b : ℤ) → a ≤ℤ b → int_le a b ≡ true
int_le-to a b h = grind (arith, h)

dearer : (price own : ℤ) (less more : ℕ) → less ≤ more → (price +ℤ pos more) ≤ℤ own → (price +ℤ pos less) ≤ℤ own
dearer price own less more least h = grind arith

cheaper : (price own : ℤ) (less more : ℕ) → less ≤ more → own ≤ℤ (price -ℤ pos more) → own ≤ℤ (price -ℤ pos less)
cheaper price own less more least h = grind arith

-- where a peak does not cross, none behind it does
further_peak : (side : Side) (own price : Price) (delta number further : ℕ) → number ≤ further
    → crosses side own (peak_price (opposite side) price delta number) ≡ false → crosses side own (peak_price (opposite side) price delta further) ≡ false
further_peak Buy own price delta number further least none_at =
    go (int_le (price.0 +ℤ pos (delta * further)) own.0) refl
  where
    go : (b : Bool) → int_le (price.0 +ℤ pos (delta * further)) own.0 ≡ b → b ≡ false
    go false e = refl
    go true e =
        absurd (true≢false (sym (int_le-to (price.0 +ℤ pos (delta * number)) own.0
        (dearer price.0 own.0 (delta * number) (delta * further) (mul-le-mul_left delta least) (int_le-from (price.0 +ℤ pos (delta * further)) own.0 e))) ∙ none_at))
further_peak Sell own price delta number further least none_at =
    go (int_le own.0 (price.0 -ℤ pos (delta * further))) refl
  where
    go : (b : Bool) → int_le own.0 (price.0 -ℤ pos (delta * further)) ≡ b → b ≡ false
    go false e = refl
    go true e =
        absurd (true≢false (sym (int_le-to own.0 (price.0 -ℤ pos (delta * number))
        (cheaper price.0 own.0 (delta * number) (delta * further) (mul-le-mul_left delta least) (int_le-from own.0 (price.0 -ℤ pos (delta * further)) e))) ∙ none_at))

-- ---- orders

-- an iceberg's peaks are at least a lot
abbrev pub HasPeaks : Kind → Type 0
HasPeaks (kind.Iceberg peak delta) = 1 ≤ peak.0
HasPeaks _ = Unit {0}

-- of an order of which nothing is left nothing stands in a line
abbrev pub while_left : (left lots : ℕ) → ℕ
while_left left lots = if nat_lt 0 left then lots else 0

pub while_left-some : (left lots : ℕ) → 0 < left → while_left left lots ≡ lots
while_left-some left lots some = ap (λ b. if b then lots else 0) (lt-ltb 0 left some)

while_left-all : (left : ℕ) → while_left left left ≡ left
while_left-all zero = refl
while_left-all (suc left) = while_left-some (suc left) (suc left) (omega arith)

-- a leg of what an order shows, at a price that crosses, takes its lots from what crosses
pub crosses-fall : (taker order : Order) (filled left lots : ℕ) → HasPeaks order.kind → crosses taker.side taker.price (price_now order filled) ≡ true
    → 1 ≤ lots → lots ≤ shown_lots order.kind filled left
    → while_left (left - lots) (crosses_left taker order (filled + lots) (left - lots)) + lots ≡ crosses_left taker order filled left
crosses-fall taker order filled left lots = go order.kind refl
  where
    -- of an order without peaks
    whole : (price : Price) → crosses taker.side taker.price price ≡ true → lots ≤ left
        → while_left (left - lots) (lots_if (crosses taker.side taker.price price) (left - lots)) + lots ≡ lots_if (crosses taker.side taker.price price) left
    whole price crossing most =
        ap (λ b. while_left (left - lots) (lots_if b (left - lots)) + lots) crossing
        ∙ ap (λ n. n + lots) (while_left-all (left - lots))
        ∙ (let all : left - lots + lots ≡ left = omega (arith, most) in all)
        ∙ sym (ap (λ b. lots_if b left) crossing)

    -- of an iceberg
    peaks : (cross : ℕ → Bool) (peak : ℕ) → 1 ≤ peak → cross (filled / peak) ≡ true → 1 ≤ lots → lots ≤ shown_lots (kind.Iceberg (record { 0 = peak }) 0) filled left
        → while_left (left - lots) (peaks_crossing cross (filled + lots + (left - lots)) peak (filled + lots)) + lots ≡ peaks_crossing cross (filled + left) peak filled
    peaks cross peak some_peak crossing some most =
        let total : filled + lots + (left - lots) ≡ filled + left = omega (arith, most) in
        let falls = peaks-fall cross (filled + left) peak filled lots some_peak some (omega (arith, most)) (omega (arith, most)) crossing in
        ap (λ t. while_left (left - lots) (peaks_crossing cross t peak (filled + lots)) + lots) total
        ∙ ap (λ n. n + lots) (by (left - lots) refl)
        ∙ sym falls
      where
        by : (rest : ℕ) → left - lots ≡ rest → while_left rest (peaks_crossing cross (filled + left) peak (filled + lots)) ≡ peaks_crossing cross (filled + left) peak (filled + lots)
        by zero e =
            let all : filled + lots ≡ filled + left = omega (arith, most, e) in
            sym (ap (peaks_crossing cross (filled + left) peak) all ∙ peaks-filled cross (filled + left) peak)
        by (suc rest) e = while_left-some (suc rest) (peaks_crossing cross (filled + left) peak (filled + lots)) (omega arith)

    go : (k : Kind) → order.kind ≡ k → HasPeaks order.kind → crosses taker.side taker.price (price_now order filled) ≡ true
        → 1 ≤ lots → lots ≤ shown_lots order.kind filled left
        → while_left (left - lots) (crosses_left taker order (filled + lots) (left - lots)) + lots ≡ crosses_left taker order filled left
    go kind.Limit is = rw is (λ has crossing some most. whole order.price crossing most)
    go kind.Ioc is = rw is (λ has crossing some most. whole order.price crossing most)
    go kind.Fok is = rw is (λ has crossing some most. whole order.price crossing most)
    go (kind.Iceberg peak delta) is = rw is (λ has crossing some most.
        peaks (λ number. crosses taker.side taker.price (peak_price order.side order.price delta number)) peak.0 has crossing some most)

-- where the price of an order does not cross nothing of it does
pub crosses-none : (taker order : Order) (filled left : ℕ) → order.side ≡ opposite taker.side → crosses taker.side taker.price (price_now order filled) ≡ false
    → crosses_left taker order filled left ≡ 0
crosses-none taker order filled left across = go order.kind refl
  where
    go : (k : Kind) → order.kind ≡ k → crosses taker.side taker.price (price_now order filled) ≡ false → crosses_left taker order filled left ≡ 0
    go kind.Limit is = rw is (λ none_at. ap (λ b. lots_if b left) none_at)
    go kind.Ioc is = rw is (λ none_at. ap (λ b. lots_if b left) none_at)
    go kind.Fok is = rw is (λ none_at. ap (λ b. lots_if b left) none_at)
    go (kind.Iceberg peak delta) is = rw is (λ none_at.
        peaks-none (λ number. crosses taker.side taker.price (peak_price order.side order.price delta number)) (filled + left) peak.0 filled
        (λ n least. subst (λ s. crosses taker.side taker.price (peak_price s order.price delta n) ≡ false) (sym across)
        (further_peak taker.side taker.price order.price delta (filled / peak.0) n least
        (subst (λ s. crosses taker.side taker.price (peak_price s order.price delta (filled / peak.0)) ≡ false) across none_at))))
