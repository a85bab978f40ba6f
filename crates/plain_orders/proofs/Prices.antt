-- The best prices of all parts of an hour, order by order.
use Rattle.std.proofs.Common.{◌≡◌, ◌∙◌, ℕ, ◌+◌, ◌<◌, inl, inr, true, false, List, ◌≢◌, get_or, length, nat_eq, nat_le, nat_lt, ◌&&◌, ◌==◌, eq-eqb, eqb-true, Some, set, take, refl, sym, ap, subst, if◌then◌else◌, arith}
use Rattle.std.proofs.lemmas.Bool.{and_from, and_parts, cases_eq, false_from_ne_true, leb-true, true≢false}
use Rattle.std.proofs.lemmas.List.{get_or-set_other, get_or-set_same}
use Rattle.order_kinds.specs.declared.contract.Contract.{Contract}
use Rattle.order_kinds.specs.declared.contract.Part.{Part}
use Rattle.order_kinds.specs.declared.contract.Part.TheVariants as part
use Rattle.order_kinds.specs.declared.side.Side.{Side}
use Rattle.order_kinds.specs.declared.side.Side.TheVariants.{Buy, Sell}
use Rattle.order_kinds.specs.Contract.{is_known, part_number}
use Rattle.order_kinds.specs.Same.{same_contract, same_side}
use Rattle.market_model.specs.Orders.{Standing}
use Rattle.laws_of_market.proofs.Tests.{same_contract-eq}
use Rattle.plain_orders.specs.declared.part_prices.BestPrices.{BestPrices}
use Rattle.plain_orders.specs.Listed.{best_price, best_with, better_of, is_in_line}
use Rattle.plain_orders.specs.Prices.{AreBestOf, AreBestPrices, contract_of, is_part_of, no_prices, prices_at, prices_with}
use Rattle.plain_orders.proofs.Best.{best-next}

-- ---- parts by their numbers

quarter-bounds : (n : ℕ) → is_known (part.Quarter n) ≡ true → (0 < n) × (n < 5)
quarter-bounds n known =
    let both = and_parts (nat_le 1 n) (nat_le n 4) known in
    let least = leb-true 1 n both.0 in let most = leb-true n 4 both.1 in (omega (arith, least), omega (arith, most))

half-bounds : (n : ℕ) → is_known (part.Half n) ≡ true → (0 < n) × (n < 3)
half-bounds n known =
    let both = and_parts (nat_le 1 n) (nat_le n 2) known in
    let least = leb-true 1 n both.0 in let most = leb-true n 2 both.1 in (omega (arith, least), omega (arith, most))

pub number-low : (p : Part) → is_known p ≡ true → part_number p < 7
number-low part.Hour known = omega arith
number-low (part.Quarter n) known = let low = quarter-bounds n known in omega (arith, low.1)
number-low (part.Half n) known = let low = half-bounds n known in omega (arith, low.1)

-- parts of one number are one
one-part : (p q : Part) → is_known p ≡ true → is_known q ≡ true → part_number p ≡ part_number q → p ≡ q
one-part part.Hour part.Hour known known_too same = refl
one-part part.Hour (part.Quarter m) known known_too same = let b = quarter-bounds m known_too in absurd (omega (arith, b.0, same))
one-part part.Hour (part.Half m) known known_too same = absurd (omega (arith, same))
one-part (part.Quarter n) part.Hour known known_too same = let a = quarter-bounds n known in absurd (omega (arith, a.0, same))
one-part (part.Quarter n) (part.Quarter m) known known_too same = ap part.Quarter same
one-part (part.Quarter n) (part.Half m) known known_too same =
    let a = quarter-bounds n known in let b = half-bounds m known_too in absurd (omega (arith, a.1, b.0, same))
one-part (part.Half n) part.Hour known known_too same = absurd (omega (arith, same))
one-part (part.Half n) (part.Quarter m) known known_too same =
    let a = half-bounds n known in let b = quarter-bounds m known_too in absurd (omega (arith, a.0, b.1, same))
one-part (part.Half n) (part.Half m) known known_too same = ap part.Half (omega (arith, same))

-- ---- one more order

module _ (hour : ℕ) (orders : List Standing) (i : ℕ) (order : Standing) (within : i < length orders) (is : order ≡ get_or orders i order) where
  -- an order of another contract leaves the best price of a line
  other-line : (contract : Contract) (side : Side) → order.order.contract ≢ contract → best_price (take i orders) contract side ≡ best_price (take (i + 1) orders) contract side
  other-line contract side apart = sym (best-next contract side orders i order within is ∙ ap (λ b. if b then Some (better_of side order.price (best_price (take i orders) contract side)) else best_price (take i orders) contract side) off)
    where
      off : is_in_line contract side order ≡ false
      off = false_from_ne_true (is_in_line contract side order) (λ h.
          let both = and_parts (nat_lt 0 order.left && same_contract order.order.contract contract) (same_side order.order.side side) h in
          let front = and_parts (nat_lt 0 order.left) (same_contract order.order.contract contract) both.0 in
          apart (same_contract-eq order.order.contract contract front.1))

  other-contract : (contract : Contract) (prices : BestPrices) → order.order.contract ≢ contract → AreBestOf (take i orders) contract prices
      → AreBestOf (take (i + 1) orders) contract prices
  other-contract contract prices apart best = record {
    buy = best.buy ∙ other-line contract Buy apart;
    sell = best.sell ∙ other-line contract Sell apart;
  }

  -- and one of the contract may be the best
  own-contract : (contract : Contract) (prices : BestPrices) → AreBestOf (take i orders) contract prices
      → AreBestOf (take (i + 1) orders) contract (prices_with contract order prices)
  own-contract contract prices best = record {
    buy = ap (best_with contract Buy order) best.buy ∙ sym (best-next contract Buy orders i order within is);
    sell = ap (best_with contract Sell order) best.sell ∙ sym (best-next contract Sell orders i order within is);
  }

  -- an order that is of no part of the hour
  pub prices-stay : (prices : List BestPrices) (contract : Contract) → contract ≡ order.order.contract → is_part_of hour contract ≡ false
      → AreBestPrices (take i orders) hour prices → AreBestPrices (take (i + 1) orders) hour prices
  prices-stay prices contract of_order none best = record { each = λ p known. other-contract (contract_of hour p) (prices_at prices p) (apart p known) (best.each p known) }
    where
      apart : (p : Part) → is_known p ≡ true → order.order.contract ≢ contract_of hour p
      apart p known same =
          true≢false (sym (and_from (nat_eq hour hour) (is_known p) (eq-eqb hour hour refl) known) ∙ ap (is_part_of hour) (sym (of_order ∙ same)) ∙ none)

  -- one of a part of the hour
  module _ (prices : List BestPrices) (contract : Contract) (number : ℕ) (new : BestPrices) (of_order : contract ≡ order.order.contract) (own : is_part_of hour contract ≡ true)
      (of_part : number ≡ part_number contract.part) (is_new : new ≡ prices_with contract order (get_or prices number no_prices))
      (size : length prices ≡ 7) (best : AreBestPrices (take i orders) hour prices) where
    both : ((contract.hour == hour) ≡ true) × (is_known contract.part ≡ true)
    both = and_parts (contract.hour == hour) (is_known contract.part) own

    of_its : contract ≡ contract_of hour contract.part
    of_its = ap (λ h. contract_of h contract.part) (eqb-true contract.hour hour both.0)

    low : number < length prices
    low = let less = number-low contract.part both.1 in omega (arith, less, size, of_part)

    made : AreBestOf (take (i + 1) orders) (contract_of hour contract.part) new
    made = subst (AreBestOf (take (i + 1) orders) (contract_of hour contract.part))
        (sym (is_new ∙ ap (λ n. prices_with contract order (get_or prices n no_prices)) of_part ∙ ap (λ own. prices_with own order (prices_at prices contract.part)) of_its))
        (own-contract (contract_of hour contract.part) (prices_at prices contract.part) (best.each contract.part both.1))

    at_own : (p : Part) → p ≡ contract.part → AreBestOf (take (i + 1) orders) (contract_of hour p) (prices_at (set prices number new) p)
    at_own p same = subst (λ q. AreBestOf (take (i + 1) orders) (contract_of hour q) (prices_at (set prices number new) q)) (sym same)
        (subst (AreBestOf (take (i + 1) orders) (contract_of hour contract.part))
        (sym (ap (λ n. get_or (set prices number new) n no_prices) (sym of_part) ∙ get_or-set_same prices number new no_prices low)) made)

    pub prices-next : AreBestPrices (take (i + 1) orders) hour (set prices number new)
    prices-next = record { each = each }
      where
        each : (p : Part) → is_known p ≡ true → AreBestOf (take (i + 1) orders) (contract_of hour p) (prices_at (set prices number new) p)
        each p known = elim (cases_eq (part_number p) number) [
          | inl same ↦ at_own p (one-part p contract.part known both.1 (same ∙ of_part))
          | inr apart ↦ subst (AreBestOf (take (i + 1) orders) (contract_of hour p)) (sym (get_or-set_other prices number (part_number p) new no_prices apart))
              (other-contract (contract_of hour p) (prices_at prices p)
              (λ same. apart (ap part_number (ap (λ (c : Contract). c.part) (sym (of_order ∙ same))) ∙ sym of_part)) (best.each p known))
        ]
