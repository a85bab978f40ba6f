-- The best price of a line, order by order.
use Rattle.std.proofs.Common.{◌≡◌, ◌∙◌, ℕ, ◌+◌, ◌<◌, ◌<ℤ◌, Bool, true, false, cond, length, ◌++◌, List, [], ◌∷◌, append-nil, filter, get_or, is_lt, Ordering, Some, refl, sym, ap, take, if◌then◌else◌}
use Rattle.std.proofs.lemmas.List.{take_more}
use Rattle.std.proofs.lemmas.List.Elements.{filter-append}
use Rattle.std.proofs.lemmas.List.Sums.{fold-append}
use Rattle.std.specs.Cmp.{int_ranks}
use Rattle.std.specs.Ordering.{MatchOrdering, int_cmp, ordering_then}
use Rattle.std.specs.declared.cmp.Ordering.TheVariants.{Less, Equal, Greater}
use Rattle.order_kinds.specs.declared.contract.Contract.{Contract}
use Rattle.order_kinds.specs.declared.price.Price.{Price}
use Rattle.order_kinds.specs.declared.side.Side.{Side}
use Rattle.order_kinds.specs.declared.side.Side.TheVariants.{Buy, Sell}
use Rattle.order_kinds.specs.Side.{price_cmp}
use Rattle.market_model.specs.Lines.{priority_cmp, time_cmp}
use Rattle.market_model.specs.Orders.{Standing}
use Rattle.zone_graph.specs.InOrder.{in_order, put_in_order}
use Rattle.plain_orders.specs.Listed.{best_price, best_with, better_of, first_price, is_in_line}

-- two prices of which neither goes first are the same
same-rank : (side : Side) (one other : Price) → price_cmp side one other ≡ Equal → one ≡ other
same-rank Buy one other is i = record { 0 = by (int_cmp other.0 one.0) (int_ranks other.0 one.0) is i }
  where
    by : (r : Ordering) → MatchOrdering r (other.0 <ℤ one.0) (other.0 ≡ one.0) (one.0 <ℤ other.0) → r ≡ Equal → one.0 ≡ other.0
    by Less m e = absurd (cc)
    by Equal m e = sym m
    by Greater m e = absurd (cc)
same-rank Sell one other is i = record { 0 = by (int_cmp one.0 other.0) (int_ranks one.0 other.0) is i }
  where
    by : (r : Ordering) → MatchOrdering r (one.0 <ℤ other.0) (one.0 ≡ other.0) (other.0 <ℤ one.0) → r ≡ Equal → one.0 ≡ other.0
    by Less m e = absurd (cc)
    by Equal m e = m
    by Greater m e = absurd (cc)

-- the first of a line once an order is put into it
put-first : (side : Side) (line : List Standing) (order : Standing)
    → first_price (put_in_order (priority_cmp side) line order) ≡ Some (better_of side order.price (first_price line))
put-first side [] order = refl
put-first side (top ∷ rest) order = by (price_cmp side order.price top.price) refl (is_lt (time_cmp order top)) refl
  where
    by : (r : Ordering) → price_cmp side order.price top.price ≡ r → (b : Bool) → is_lt (time_cmp order top) ≡ b
        → first_price (if is_lt (ordering_then (price_cmp side order.price top.price) (time_cmp order top)) then (order ∷ top ∷ rest) else (top ∷ put_in_order (priority_cmp side) rest order))
        ≡ Some (if is_lt (price_cmp side order.price top.price) then order.price else top.price)
    by Less r b t = rw r refl
    by Equal r true t = rw r (rw t (ap Some (same-rank side order.price top.price r)))
    by Equal r false t = rw r (rw t refl)
    by Greater r b t = rw r refl

module _ (contract : Contract) (side : Side) (orders : List Standing) (i : ℕ) (order : Standing) (within : i < length orders) (is : order ≡ get_or orders i order) where
  abbrev here : Standing → Bool
  here = is_in_line contract side

  one-more : take (i + 1) orders ≡ take i orders ++ order ∷ []
  one-more = take_more orders i order within ∙ ap (λ o. take i orders ++ o ∷ []) (sym is)

  -- the orders of a line with one more
  pub more : filter here (take (i + 1) orders) ≡ filter here (take i orders) ++ cond (here order) (order ∷ []) []
  more = ap (filter here) one-more ∙ filter-append here (take i orders) (order ∷ [])

  -- the best price with one more order
  pub best-next : best_price (take (i + 1) orders) contract side ≡ best_with contract side order (best_price (take i orders) contract side)
  best-next = go (here order) refl
    where
      so_far : List Standing
      so_far = filter here (take i orders)

      go : (b : Bool) → here order ≡ b
          → best_price (take (i + 1) orders) contract side ≡ (if b then Some (better_of side order.price (best_price (take i orders) contract side)) else best_price (take i orders) contract side)
      go true on =
          ap (λ os. first_price (in_order (priority_cmp side) os)) (more ∙ ap (λ b. so_far ++ cond b (order ∷ []) []) on)
          ∙ ap first_price (fold-append (put_in_order (priority_cmp side)) [] so_far (order ∷ []))
          ∙ put-first side (in_order (priority_cmp side) so_far) order
      go false off = ap (λ os. first_price (in_order (priority_cmp side) os)) (more ∙ ap (λ b. so_far ++ cond b (order ∷ []) []) off ∙ append-nil so_far)
