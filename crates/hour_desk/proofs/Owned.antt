-- What is left of the order or block that a caller has open under a name.
use Rattle.std.proofs.Common.{◌≡◌, ◌∙◌, ℕ, ◌<◌, ◌==◌, ◌&&◌, not, Bool, true, false, List, nat_lt, Option, Some, None, is_none, option_map, refl, sym, ap, if◌then◌else◌, arith}
use Rattle.std.proofs.lemmas.Bool.{and_parts, ltb-true}
use Rattle.order_kinds.specs.declared.order.OrderName.{OrderName}
use Rattle.order_kinds.specs.Order.{is_limit}
use Rattle.order_kinds.specs.Same.{same_name}
use Rattle.zone_graph.proofs.Finding.{from_find}
use Rattle.market_model.specs.declared.event.Event.{Event}
use Rattle.market_model.specs.Orders.{Placed, PlacedBlock, blocks_placed, is_open, left, open_block, open_order, placed}
use Rattle.market_model.specs.Refusals.{has_own, if_limit, if_own, if_own_block, is_below_left, own_limit}
use Rattle.laws_of_market.proofs.Tests.{same_name-eq}
use Rattle.desk_refusals.specs.declared.owning.Own.{Own}
use Rattle.desk_refusals.specs.Owned.{left_of, of_block, of_order, own_of}

-- ---- what is the caller's, or a limit order, is what was found

own-found : (caller : ℕ) (o : Option Placed) (order : Placed) → if_own caller o ≡ Some order → o ≡ Some order
own-found caller None order is = absurd (cc)
own-found caller (Some other) order is = go (other.caller == caller) is
  where
    go : (b : Bool) → (if b then Some other else None) ≡ Some order → Some other ≡ Some order
    go true k = k
    go false k = absurd (cc)

own-block-found : (caller : ℕ) (o : Option PlacedBlock) (block : PlacedBlock) → if_own_block caller o ≡ Some block → o ≡ Some block
own-block-found caller None block is = absurd (cc)
own-block-found caller (Some other) block is = go (other.caller == caller) is
  where
    go : (b : Bool) → (if b then Some other else None) ≡ Some block → Some other ≡ Some block
    go true k = k
    go false k = absurd (cc)

limit-found : (o : Option Placed) (order : Placed) → if_limit o ≡ Some order → o ≡ Some order
limit-found None order is = absurd (cc)
limit-found (Some other) order is = go (is_limit other.order.kind) is
  where
    go : (b : Bool) → (if b then Some other else None) ≡ Some order → Some other ≡ Some order
    go true k = k
    go false k = absurd (cc)

module _ (events : List Event) (caller : ℕ) (name : OrderName) where
  order-named : (order : Placed) → open_order events name ≡ Some order → order.name ≡ name
  order-named order is =
      let found = from_find (λ (o : Placed). same_name o.name name && is_open events o.name) order (placed events) is in
      same_name-eq order.name name (and_parts (same_name order.name name) (is_open events order.name) found.1).0

  block-named : (block : PlacedBlock) → open_block events name ≡ Some block → block.name ≡ name
  block-named block is =
      let found = from_find (λ (b : PlacedBlock). same_name b.name name && is_open events b.name) block (blocks_placed events) is in
      same_name-eq block.name name (and_parts (same_name block.name name) (is_open events block.name) found.1).0

  told-order : (order : Placed) → if_own caller (open_order events name) ≡ Some order → own_of events caller name ≡ Some (of_order events order)
  told-order order is = rw (is, own_of) refl

  told-block : (block : Option PlacedBlock) → if_own caller (open_order events name) ≡ None → if_own_block caller (open_block events name) ≡ block
      → own_of events caller name ≡ option_map (of_block events) block
  told-block block none is = rw (none, is, own_of) refl

  -- what is told to be left is left of the name
  pub own-left : (own : Own) → own_of events caller name ≡ Some own → left_of own ≡ left events name
  own-left own same = go (if_own caller (open_order events name)) (if_own_block caller (open_block events name)) refl refl
    where
      go : (o : Option Placed) (b : Option PlacedBlock) → if_own caller (open_order events name) ≡ o → if_own_block caller (open_block events name) ≡ b
          → left_of own ≡ left events name
      go (Some order) b is block =
          let told : Some (of_order events order) ≡ Some own = sym (told-order order is) ∙ same in
          let here : of_order events order ≡ own = cc in
          ap left_of (sym here) ∙ ap (left events) (order-named order (own-found caller (open_order events name) order is))
      go None (Some block) is there =
          let told : Some (of_block events block) ≡ Some own = sym (told-block (Some block) is there) ∙ same in
          let here : of_block events block ≡ own = cc in
          ap left_of (sym here) ∙ ap (left events) (block-named block (own-block-found caller (open_block events name) block there))
      go None None is there = absurd (let none = sym (told-block None is there) ∙ same in cc)

  -- a limit order of the caller's is one of the caller's
  pub limit-own : not (is_none (own_limit events caller name)) ≡ true → has_own events caller name ≡ true
  limit-own known = go (if_own caller (open_order events name)) refl
    where
      go : (o : Option Placed) → if_own caller (open_order events name) ≡ o → has_own events caller name ≡ true
      go None is = absurd (let none : not (is_none (if_limit None)) ≡ true = ap (λ o. not (is_none (if_limit o))) (sym is) ∙ known in cc)
      go (Some order) is = ap (λ o. not (is_none o && is_none (if_own_block caller (open_block events name)))) is

  -- and a reduction that is not refused leaves less of it
  pub below-left : (to : ℕ) → not (is_none (own_limit events caller name)) ≡ true → is_below_left events to (own_limit events caller name) ≡ true
      → to < left events name
  below-left to known below = go (own_limit events caller name) refl
    where
      go : (o : Option Placed) → own_limit events caller name ≡ o → to < left events name
      go None is = absurd (let none : not (is_none {T = Placed} None) ≡ true = ap (λ o. not (is_none o)) (sym is) ∙ known in cc)
      go (Some order) is =
          let less : nat_lt to (left events order.name) ≡ true = ap (is_below_left events to) (sym is) ∙ below in
          let found = own-found caller (open_order events name) order (limit-found (if_own caller (open_order events name)) order is) in
          let named = ap (left events) (order-named order found) in
          let fact = ltb-true to (left events order.name) less in
          omega (arith, named, fact)
