-- The first of a line that meets a test, order by order.
use Rattle.std.proofs.Common.{◌≡◌, ◌∙◌, ℕ, ◌+◌, ◌<◌, ◌&&◌, inl, inr, Bool, true, false, cond, length, ◌++◌, List, [], ◌∷◌, append-nil, filter, get_or, Ordering, Option, Some, None, refl, sym, ap, take, if◌then◌else◌}
use Rattle.std.proofs.lemmas.List.Sums.{fold-append}
use Rattle.std.specs.List.{find}
use Rattle.order_kinds.specs.declared.contract.Contract.{Contract}
use Rattle.order_kinds.specs.declared.side.Side.{Side}
use Rattle.zone_graph.specs.InOrder.{in_order, put_in_order}
use Rattle.zone_graph.specs.Route.{IsIn}
use Rattle.market_model.specs.Lines.{priority_cmp}
use Rattle.market_model.specs.Orders.{Standing}
use Rattle.laws_of_market.proofs.Ascending.{Ascends, ascends-in_order, before_too, lt}
use Rattle.laws_of_market.proofs.Lines.{priority_weak}
use Rattle.plain_orders.specs.Listed.{goes_first, is_first, is_in_line, line_of}
use Rattle.plain_orders.proofs.Best.{more}

module _ (side : Side) (test : Standing → Bool) where
  abbrev cmp : Standing → Standing → Ordering
  cmp = priority_cmp side

  abbrev goes_ahead : Standing → Standing → Bool
  goes_ahead = lt cmp (priority_weak side)

  -- an order that goes ahead of all goes ahead of the one that is found
  ahead-found : (order : Standing) (others : List Standing) → ((other : Standing) → IsIn other others → goes_ahead order other ≡ true)
      → goes_first side order (find test others) ≡ true
  ahead-found order [] each = refl
  ahead-found order (top ∷ rest) each = go (test top) (ahead-found order rest (λ other i. each other (inr i)))
    where
      go : (b : Bool) → goes_first side order (find test rest) ≡ true → goes_first side order (cond b (Some top) (find test rest)) ≡ true
      go true later = each top (inl refl)
      go false later = later

  -- with one order more, it is found if it meets the test and goes ahead of the one that was
  find-put : (line : List Standing) (order : Standing) → Ascends cmp (priority_weak side) line
      → find test (put_in_order cmp line order) ≡ (if test order && goes_first side order (find test line) then Some order else find test line)
  find-put [] order up = go (test order)
    where
      go : (b : Bool) → cond b (Some order) None ≡ (if b && true then Some order else None)
      go true = refl
      go false = refl
  find-put (top ∷ rest) order up = go (goes_ahead order top) refl (find-put rest order up.1)
    where
      found : Option Standing
      found = find test (top ∷ rest)

      before : goes_ahead order top ≡ true → (b : Bool) → cond b (Some order) found ≡ (if b && goes_first side order found then Some order else found)
      before less true =
          sym (ap (λ b. if b then Some order else found) (ahead-found order (top ∷ rest) (λ other i. elim i [
            | inl same ↦ ap (goes_ahead order) same ∙ less
            | inr later ↦ before_too cmp (priority_weak side) order top other less (up.0 other later)
          ])))
      before less false = refl

      behind : goes_ahead order top ≡ false → (b : Bool) → Some top ≡ (if b && goes_ahead order top then Some order else Some top)
      behind not_less true = sym (ap (λ b. if b then Some order else Some top) not_less)
      behind not_less false = refl

      after : goes_ahead order top ≡ false → (b : Bool)
          → find test (put_in_order cmp rest order) ≡ (if test order && goes_first side order (find test rest) then Some order else find test rest)
          → cond b (Some top) (find test (put_in_order cmp rest order))
          ≡ (if test order && goes_first side order (cond b (Some top) (find test rest)) then Some order else cond b (Some top) (find test rest))
      after not_less true later = behind not_less (test order)
      after not_less false later = later

      go : (b : Bool) → goes_ahead order top ≡ b
          → find test (put_in_order cmp rest order) ≡ (if test order && goes_first side order (find test rest) then Some order else find test rest)
          → find test (if b then (order ∷ top ∷ rest) else (top ∷ put_in_order cmp rest order)) ≡ (if test order && goes_first side order found then Some order else found)
      go true less later = before less (test order)
      go false not_less later = after not_less (test top) later

-- the first of a line that meets a test, with one order more
pub first-next : (test : Standing → Bool) (contract : Contract) (side : Side) (orders : List Standing) (i : ℕ) (order : Standing) → i < length orders → order ≡ get_or orders i order
    → find test (line_of (take (i + 1) orders) contract side)
    ≡ (if is_first test contract side order (find test (line_of (take i orders) contract side)) then Some order else find test (line_of (take i orders) contract side))
first-next test contract side orders i order within is = go (is_in_line contract side order) refl
  where
    so_far : List Standing
    so_far = filter (is_in_line contract side) (take i orders)

    found : Option Standing
    found = find test (in_order (priority_cmp side) so_far)

    go : (b : Bool) → is_in_line contract side order ≡ b
        → find test (line_of (take (i + 1) orders) contract side) ≡ (if b && (test order && goes_first side order found) then Some order else found)
    go true on =
        ap (λ os. find test (in_order (priority_cmp side) os)) (more contract side orders i order within is ∙ ap (λ b. so_far ++ cond b (order ∷ []) []) on)
        ∙ ap (find test) (fold-append (put_in_order (priority_cmp side)) [] so_far (order ∷ []))
        ∙ find-put side test (in_order (priority_cmp side) so_far) order (ascends-in_order (priority_cmp side) (priority_weak side) so_far)
    go false off =
        ap (λ os. find test (in_order (priority_cmp side) os))
        (more contract side orders i order within is ∙ ap (λ b. so_far ++ cond b (order ∷ []) []) off ∙ append-nil so_far)
