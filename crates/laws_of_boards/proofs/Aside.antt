-- What an event leaves of the orders of a contract of which it enters none and is no leg.
use Rattle.std.proofs.Common.{◌≡◌, ◌≢◌, ◌∙◌, inl, inr, ◌<◌, false, List, [], ◌∷◌, Option, Some, refl, sym, ap, subst, arith}
use Rattle.std.proofs.lemmas.Bool.{lt-ltb, ltb-true}
use Rattle.std.proofs.lemmas.List.Sorted.{ranks_by}
use Rattle.std.specs.List.{filter_map}
use Rattle.order_kinds.specs.declared.contract.Contract.{Contract}
use Rattle.order_kinds.specs.declared.order.OrderName.{OrderName}
use Rattle.order_kinds.specs.declared.price.Price.{Price}
use Rattle.order_kinds.specs.declared.side.Side.{Side}
use Rattle.order_kinds.specs.Side.{prefers, price_cmp}
use Rattle.order_kinds.proofs.PriceOrder.{price_cmp_total}
use Rattle.zone_graph.specs.Pour.{lots_if}
use Rattle.zone_graph.specs.Route.{IsIn}
use Rattle.zone_graph.proofs.Membership.{IsIn-right}
use Rattle.market_model.specs.declared.event.Event.{Event}
use Rattle.market_model.specs.declared.event.Event.TheVariants as event
use Rattle.market_model.specs.declared.setup.Setup.{Setup}
use Rattle.market_model.specs.History.{and_then}
use Rattle.market_model.specs.Lines.{line, priority_cmp}
use Rattle.market_model.specs.Orders.{Placed, PlacedBlock, Standing, block_placed_by, entered_by, filled, filled_by, left, placed, placed_by, price_now, standing}
use Rattle.market_model.specs.WellFormed.{FitAfter, Fits}
use Rattle.laws_of_market.proofs.Ascending.{itself}
use Rattle.laws_of_market.proofs.Lines.{IsIn-line, priority_weak}
use Rattle.laws_of_market.proofs.Members.{IsIn-filter_map}
use Rattle.laws_of_market.proofs.Names.{names-once}
use Rattle.laws_of_market.proofs.Placed.{from_picked-more, picked-stays}
use Rattle.laws_of_market.proofs.Repeats.{fit-more}
use Rattle.laws_of_market.proofs.States.{filled-more, left-more}
use Rattle.laws_of_market.proofs.Trades.{IsInLine, IsOpen, from_line}
use Rattle.laws_of_market.proofs.Unique.{one_order, order_is_no_block}
use Rattle.laws_of_market.proofs.Wholes.{names-other, other_name}
use Rattle.laws_of_boards.specs.Fronts.{StandInFor}
use Rattle.laws_of_boards.proofs.Worse.{price-first}
use Rattle.laws_of_boards.specs.Quiet.{IsAside}

-- no price is better than itself
pub no_better : (side : Side) (one : Standing) → prefers side one.price one.price ≡ false
no_better side one = price-first side one one (itself (priority_cmp side) (priority_weak side) one)

-- what an event picks is among what all have picked
own_pick : {Y : Type 0} (pick : Event → Option Y) (events : List Event) (e : Event) (y : Y) → pick e ≡ Some y → IsIn y (filter_map pick (and_then events e))
own_pick pick events e y is = IsIn-filter_map pick e y (and_then events e) (IsIn-right e events (e ∷ []) (inl refl)) is

module _ (setup : Setup) (events : List Event) (fit : FitAfter setup [] events) (contract : Contract) where
  -- it enters none of them anew
  none_entered : (e : Event) → Fits setup events e → IsAside contract e → (order : Placed) → IsIn order (placed events) → order.order.contract ≡ contract
      → entered_by order.name e ≡ 0
  none_entered (event.Entered name caller entering) fits aside order there of_contract =
      let e : Event = event.Entered name caller entering in
      let new : Placed = record { name = name; caller = caller; order = entering } in
      let once = names-once setup (and_then events e) (fit-more setup events e fit fits) in
      ap (λ b. lots_if b entering.quantity.0) (other_name name order.name (λ same.
      let one : new ≡ order = one_order (and_then events e) once new order (own_pick placed_by events e new refl) (picked-stays placed_by order events (e ∷ []) there) same in
      aside (ap (λ (p : Placed). p.order.contract) one ∙ of_contract)))
  none_entered (event.EnteredBlock name caller entering) fits aside order there of_contract =
      let e : Event = event.EnteredBlock name caller entering in
      let new : PlacedBlock = record { name = name; caller = caller; order = entering } in
      let once = names-once setup (and_then events e) (fit-more setup events e fit fits) in
      ap (λ b. lots_if b entering.quantity.0) (other_name name order.name (λ same.
      order_is_no_block (and_then events e) once order new (picked-stays placed_by order events (e ∷ []) there) (own_pick block_placed_by events e new refl) (sym same)))
  none_entered _ fits aside order there of_contract = refl

  -- who trades in another contract is none of them
  not_traded : (traded : Contract) (name : OrderName) (party order : Placed) → traded ≢ contract → IsIn party (placed events) → party.name ≡ name
      → party.order.contract ≡ traded → IsIn order (placed events) → order.order.contract ≡ contract → name ≢ order.name
  not_traded traded name party order aside party_there is_named of_traded there of_contract same =
      let one : party ≡ order = one_order events (names-once setup events fit) party order party_there there (is_named ∙ same) in
      aside (sym of_traded ∙ ap (λ (p : Placed). p.order.contract) one ∙ of_contract)

  -- it fills none of them
  none_filled : (e : Event) → Fits setup events e → IsAside contract e → (order : Placed) → IsIn order (placed events) → order.order.contract ≡ contract
      → filled_by order.name e ≡ 0
  none_filled (event.Leg traded leg) fits aside order there of_contract =
      ap (λ b. lots_if b leg.lots) (names-other leg order.name
      (not_traded traded leg.taker fits.taker order aside fits.taker_open.is_placed fits.taker_open.is_named fits.taker_contract there of_contract)
      (not_traded traded leg.maker fits.maker order aside fits.maker_open.is_placed fits.maker_open.is_named fits.maker_contract there of_contract))
  none_filled (event.BlockLeg first last leg) fits aside order there of_contract =
      let once = names-once setup events fit in
      ap (λ b. lots_if b leg.lots) (names-other leg order.name
      (λ same. order_is_no_block events once order fits.taker there fits.taker_open.is_placed (sym (fits.taker_open.is_named ∙ same)))
      (λ same. order_is_no_block events once order fits.maker there fits.maker_open.is_placed (sym (fits.maker_open.is_named ∙ same))))
  none_filled _ fits aside order there of_contract = refl

  -- it brings none
  none_new : (e : Event) → IsAside contract e → (order : Placed) → placed_by e ≡ Some order → order.order.contract ≢ contract
  none_new (event.Entered name caller entering) aside order is of_contract =
      let same : record { name = name; caller = caller; order = entering } ≡ order = cc in
      aside (ap (λ (p : Placed). p.order.contract) same ∙ of_contract)
  none_new _ aside order is of_contract = cc

  -- so each that stands after it stood before, at the same price
  pub stand_as_before : (e : Event) → Fits setup events e → IsAside contract e → (side : Side)
      → StandInFor side (line events contract side) (line (and_then events e) contract side)
  stand_as_before e fits aside side found i =
      let in_line = from_line (and_then events e) contract side found i in
      elim (from_picked-more placed_by in_line.order events e in_line.is_open.is_placed) [
        | inl old ↦ stood in_line old
        | inr new ↦ absurd (none_new e aside in_line.order new in_line.of_contract)
      ]
    where
      stood : (in_line : IsInLine (and_then events e) contract side found) → IsIn in_line.order (placed events)
          → (old : Standing) × IsIn old (line events contract side) × (found.order.zone ≡ old.order.zone) × (prefers side found.price old.price ≡ false)
      stood in_line old =
          let order : Placed = in_line.order in
          let was : Standing = standing events order in
          let lower = left-more events e order.name (none_entered e fits aside order old in_line.of_contract) in
          let some : 0 < left (and_then events e) order.name = ltb-true 0 (left (and_then events e) order.name) in_line.is_open.is_left in
          let opened : IsOpen events order = record { is_placed = old; is_left = lt-ltb 0 (left events order.name) (omega (arith, lower, some)) } in
          let none = none_filled e fits aside order old in_line.of_contract in
          let fills : filled (and_then events e) order.name ≡ filled events order.name = rw (filled-more events e order.name, none) (omega arith) in
          let price : found.price ≡ was.price = ap (λ (s : Standing). s.price) in_line.is ∙ ap (price_now order.order) fills in
          let in_its = subst (λ s. IsIn was (line events order.order.contract s)) in_line.on_side (IsIn-line events order opened) in (
            was,
            subst (λ c. IsIn was (line events c side)) in_line.of_contract in_its,
            ap (λ (s : Standing). s.order.zone) in_line.is,
            subst (λ q. prefers side q was.price ≡ false) (sym price) (no_better side was),
          )

-- who stands in for one that stands in for a former order stands in for that order
pub stand-on : (side : Side) (former now then : List Standing) → StandInFor side former now → StandInFor side now then → StandInFor side former then
stand-on side former now then first second order i =
    let mid = second order i in
    let old = first mid.0 mid.1 in (
      old.0,
      old.1,
      mid.2 ∙ old.2,
      (ranks_by (price_cmp_total side) (λ (p : Price). p)).chain order.price mid.0.price old.0.price mid.3 old.3,
    )

pub stand-still : (side : Side) (orders : List Standing) → StandInFor side orders orders
stand-still side orders order i = (order, i, refl, no_better side order)
