-- An event that is nothing to the orders of an hour leaves its lines as they were.
use Rattle.std.proofs.Common.{◌≡◌, ◌≢◌, ◌∙◌, ◌⊎◌, inl, inr, ℕ, false, List, [], Some, refl, sym, ap}
use Rattle.order_kinds.specs.declared.contract.Contract.{Contract}
use Rattle.order_kinds.specs.declared.order.OrderName.{OrderName}
use Rattle.order_kinds.specs.declared.side.Side.{Side}
use Rattle.zone_graph.specs.Route.{IsIn}
use Rattle.zone_graph.proofs.InOrder.{in_order-one}
use Rattle.contract_book.specs.Resting.{resting_cmp}
use Rattle.market_model.specs.declared.event.Event.{Event}
use Rattle.market_model.specs.declared.event.Event.TheVariants as event
use Rattle.market_model.specs.declared.setup.Setup.{Setup}
use Rattle.market_model.specs.History.{and_then}
use Rattle.market_model.specs.Orders.{Placed, placed, placed_by}
use Rattle.market_model.specs.WellFormed.{FitAfter, Fits}
use Rattle.laws_of_market.proofs.Names.{NamesOnce, block_name-new, names-once, order_name-new}
use Rattle.laws_of_market.proofs.Placed.{all_are_sound, from_picked-more}
use Rattle.laws_of_market.proofs.Repeats.{fit-more}
use Rattle.laws_of_market.proofs.Unique.{one_order, order_is_no_block}
use Rattle.laws_of_market.proofs.Wholes.{names-other, other_name}
use Rattle.laws_of_books.specs.BookLaws.{IsElsewhere, IsOfBlock}
use Rattle.laws_of_books.specs.BookOf.{book_of, contract_of, resting_line}
use Rattle.laws_of_books.proofs.LineOrders.{entered-other, from_resting, in_resting, resting-strict, resting_weak}
use Rattle.laws_of_books.proofs.PartLines.{book_of-same}
use Rattle.laws_of_books.proofs.Untouched.{concerns, there-after, there-before}

module _ (setup : Setup) (events : List Event) (fit : FitAfter setup [] events) where
  once : NamesOnce events
  once = names-once setup events fit

  -- an order is named by the hour of its contract
  pub named : (order : Placed) → IsIn order (placed events) → order.name.hour ≡ order.order.contract.hour
  named order there = ((all_are_sound setup events fit).orders order there).named

  -- a name of another hour, or of a block, is not that of an order of an hour
  not_named : (hour : ℕ) (name : OrderName) (order : Placed) → IsIn order (placed events) → order.order.contract.hour ≡ hour
      → (name.hour ≢ hour) ⊎ IsOfBlock events name → name ≢ order.name
  not_named hour name order there of_hour other same = elim other [
    | inl apart ↦ apart (ap (λ (n : OrderName). n.hour) same ∙ named order there ∙ of_hour)
    | inr block ↦ order_is_no_block events once order block.0 there block.1 (sym (block.2 ∙ same))
  ]

  -- an order that trades in a contract of one hour is none of another
  pub not_traded : (hour : ℕ) (contract : Contract) (name : OrderName) (traded order : Placed) → IsIn traded (placed events) → traded.name ≡ name
      → traded.order.contract ≡ contract → contract.hour ≢ hour → IsIn order (placed events) → order.order.contract.hour ≡ hour → name ≢ order.name
  not_traded hour contract name traded order traded_there is_named of_contract apart there of_hour same =
      let one : traded ≡ order = one_order events once traded order traded_there there (is_named ∙ same) in
      apart (ap (λ (c : Contract). c.hour) (sym of_contract) ∙ ap (λ (p : Placed). p.order.contract.hour) one ∙ of_hour)

  -- no order of the hour is concerned
  not_concerned : (hour : ℕ) (e : Event) → Fits setup events e → IsElsewhere events hour e → (order : Placed) → IsIn order (placed events)
      → order.order.contract.hour ≡ hour
      → concerns order.name e ≡ false
  not_concerned hour (event.Entered name caller entering) fits elsewhere order there of_hour =
      other_name name order.name (entered-other setup events fit name (order_name-new setup events name caller entering once fits) order there)
  not_concerned hour (event.EnteredBlock name caller entering) fits elsewhere order there of_hour =
      other_name name order.name (entered-other setup events fit name (block_name-new setup events name caller entering once fits) order there)
  not_concerned hour (event.Leg contract leg) fits elsewhere order there of_hour =
      names-other leg order.name
      (not_traded hour contract leg.taker fits.taker order fits.taker_open.is_placed fits.taker_open.is_named fits.taker_contract elsewhere there of_hour)
      (not_traded hour contract leg.maker fits.maker order fits.maker_open.is_placed fits.maker_open.is_named fits.maker_contract elsewhere there of_hour)
  not_concerned hour (event.BlockLeg first last leg) fits elsewhere order there of_hour =
      names-other leg order.name
      (λ same. order_is_no_block events once order fits.taker there fits.taker_open.is_placed (sym (fits.taker_open.is_named ∙ same)))
      (λ same. order_is_no_block events once order fits.maker there fits.maker_open.is_placed (sym (fits.maker_open.is_named ∙ same)))
  not_concerned hour (event.Withdrawn name lots) fits elsewhere order there of_hour =
      other_name name order.name (not_named hour name order there of_hour elsewhere)
  not_concerned hour (event.Reduced name by) fits elsewhere order there of_hour =
      other_name name order.name (not_named hour name order there of_hour elsewhere)
  not_concerned hour _ fits elsewhere order there of_hour = refl

  -- none of it enters
  not_entered : (hour : ℕ) (e : Event) → IsElsewhere events hour e → (order : Placed) → placed_by e ≡ Some order → order.order.contract.hour ≢ hour
  not_entered hour (event.Entered name caller entering) elsewhere order is of_hour =
      let same : record { name = name; caller = caller; order = entering } ≡ order = cc in
      elsewhere (ap (λ (p : Placed). p.order.contract.hour) same ∙ of_hour)
  not_entered hour _ elsewhere order is of_hour = cc

  -- so the lines stay
  line-elsewhere : (hour : ℕ) (e : Event) → Fits setup events e → IsElsewhere events hour e → (contract : Contract) (side : Side) → contract.hour ≡ hour
      → resting_line (and_then events e) contract side ≡ resting_line events contract side
  line-elsewhere hour e fits elsewhere contract side of_hour =
      in_order-one (resting_cmp side) (resting_weak side) (resting_line (and_then events e) contract side) (resting_line events contract side)
      (resting-strict setup (and_then events e) (fit-more setup events e fit fits) contract side) (resting-strict setup events fit contract side)
      (λ x i.
      let there = from_resting (and_then events e) contract side x i in
      let in_hour : there.order.order.contract.hour ≡ hour = ap (λ (c : Contract). c.hour) there.of_contract ∙ of_hour in
      elim (from_picked-more placed_by there.order events e there.is_placed) [
        | inl old ↦ in_resting events contract side x (there-before events e contract side x there old (not_concerned hour e fits elsewhere there.order old in_hour))
        | inr new ↦ absurd (not_entered hour e elsewhere there.order new in_hour)
      ])
      (λ x i.
      let there = from_resting events contract side x i in
      let in_hour : there.order.order.contract.hour ≡ hour = ap (λ (c : Contract). c.hour) there.of_contract ∙ of_hour in
      in_resting (and_then events e) contract side x (there-after events e contract side x there (not_concerned hour e fits elsewhere there.order there.is_placed in_hour)))

  pub book-elsewhere : (hour : ℕ) (e : Event) → Fits setup events e → IsElsewhere events hour e → book_of (and_then events e) hour ≡ book_of events hour
  book-elsewhere hour e fits elsewhere =
      book_of-same (and_then events e) events hour (λ part side known. line-elsewhere hour e fits elsewhere (contract_of hour part) side refl)
