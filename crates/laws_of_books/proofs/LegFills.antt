-- What a leg makes of the record of each of its two orders.
use Rattle.std.proofs.Common.{◌≡◌, ◌≢◌, ◌∙◌, ℕ, ◌+◌, ◌-◌, ◌<◌, ◌≤◌, ◌==◌, ◌&&◌, Bool, true, false, List, [], Option, Some, None, eq-eqb, eqb-true, refl, sym, ap, if◌then◌else◌, arith}
use Rattle.std.proofs.lemmas.Bool.{lt-ltb, ltb-true, true≢false}
use Rattle.order_kinds.specs.declared.contract.Contract.{Contract}
use Rattle.order_kinds.specs.declared.order.Kind.{Kind}
use Rattle.order_kinds.specs.declared.order.Kind.TheVariants as kind
use Rattle.zone_graph.specs.Pour.{lots_if}
use Rattle.contract_book.specs.declared.resting.Resting.{Resting}
use Rattle.contract_book.specs.Resting.{order_after}
use Rattle.market_model.specs.declared.event.Event.{Event}
use Rattle.market_model.specs.declared.event.Event.TheVariants as event
use Rattle.market_model.specs.declared.event.Leg.{Leg}
use Rattle.market_model.specs.declared.setup.Setup.{Setup}
use Rattle.market_model.specs.History.{and_then, of_hour}
use Rattle.market_model.specs.Orders.{Placed, ends_peak, filled, filled_by, gives_moment, is_open, left, moment, names, standing}
use Rattle.market_model.specs.WellFormed.{FitAfter, Fits}
use Rattle.laws_of_market.proofs.Balances.{left-leg}
use Rattle.laws_of_market.proofs.Repeats.{fit-more}
use Rattle.laws_of_market.proofs.States.{filled-more}
use Rattle.laws_of_market.proofs.LocalMoments.{filled-hour, moment-more}
use Rattle.laws_of_books.specs.BookOf.{next_moment, resting_of}
use Rattle.laws_of_books.proofs.Untouched.{standing_at}
use Rattle.laws_of_books.proofs.Updates.{Change}

-- what a fill leaves of an order: nothing, or its next record
abbrev pub next_record : Resting → (lots moment : ℕ) → Option Resting
next_record order lots moment = if order.left == lots then None else Some (order_after order lots moment)

abbrev pub fill_of : Resting → (lots moment : ℕ) → Change
fill_of order lots moment = record { number = order.number; next = next_record order lots moment }

-- an order with so much more filled stands as its record after the fill
after_kind : (order : Placed) (given : Kind) (filled left lots later old : ℕ)
    → let placed = record order { order = record order.order { kind = given } } in
    resting_of (standing_at placed (filled + lots) (left - lots) (if ends_peak given (filled + lots) then later else old))
    ≡ order_after (resting_of (standing_at placed filled left old)) lots later
after_kind order kind.Limit filled left lots later old = refl
after_kind order kind.Ioc filled left lots later old = refl
after_kind order kind.Fok filled left lots later old = refl
after_kind order (kind.Iceberg peak delta) filled left lots later old = refl

module _ (setup : Setup) (events : List Event) (fit : FitAfter setup [] events) (contract : Contract) (leg : Leg)
    (fits : Fits setup events (event.Leg contract leg))
    (order : Placed) (of_hour_is : order.name.hour ≡ contract.hour) (is_named : names leg order.name ≡ true) (has : leg.lots ≤ left events order.name) where
  abbrev trade : Event
  trade = event.Leg contract leg

  abbrev after : List Event
  after = and_then events trade

  abbrev before_it : Resting
  before_it = resting_of (standing events order)

  left-filled : left after order.name ≡ left events order.name - leg.lots
  left-filled = left-leg events contract leg order.name is_named

  filled-filled : filled after order.name ≡ filled events order.name + leg.lots
  filled-filled =
      let more = filled-more events trade order.name in
      let own : filled_by order.name trade ≡ leg.lots = ap (λ b. lots_if b leg.lots) is_named in
      omega (arith, more, own)

  moment-filled : moment after order
      ≡ (if ends_peak order.order.kind (filled events order.name + leg.lots) then next_moment events contract.hour else moment events order)
  moment-filled =
      moment-more contract.hour events trade order (eq-eqb contract.hour contract.hour refl) of_hour_is
      ∙ ap (λ b. if b then next_moment events contract.hour else moment events order) gives
    where
      gives : gives_moment order (of_hour contract.hour events) trade ≡ ends_peak order.order.kind (filled events order.name + leg.lots)
      gives =
          ap (λ b. b && ends_peak order.order.kind (filled (and_then (of_hour contract.hour events) trade) order.name)) is_named
          ∙ ap (ends_peak order.order.kind) (filled-hour setup contract.hour events trade order.name fit (fit-more setup events trade fit fits) of_hour_is ∙ filled-filled)

  -- its record
  pub record-filled : resting_of (standing after order) ≡ order_after before_it leg.lots (next_moment events contract.hour)
  record-filled =
      ap (λ f. resting_of (standing_at order f (left after order.name) (moment after order))) filled-filled
      ∙ ap (λ l. resting_of (standing_at order (filled events order.name + leg.lots) l (moment after order))) left-filled
      ∙ ap (λ m. resting_of (standing_at order (filled events order.name + leg.lots) (left events order.name - leg.lots) m)) moment-filled
      ∙ after_kind order order.order.kind (filled events order.name) (left events order.name) leg.lots (next_moment events contract.hour) (moment events order)

  abbrev filling : Change
  filling = fill_of before_it leg.lots (next_moment events contract.hour)

  -- it is open where more was left
  pub next-filled : is_open after order.name ≡ true → filling.next ≡ Some (resting_of (standing after order))
  next-filled opened =
      let some = ltb-true 0 (left after order.name) opened in
      let less = left-filled in
      rest (left events order.name == leg.lots) refl (omega (arith, some, less))
    where
      rest : (b : Bool) → (left events order.name == leg.lots) ≡ b → leg.lots < left events order.name
          → filling.next ≡ Some (resting_of (standing after order))
      rest true e fewer = absurd (let all = eqb-true (left events order.name) leg.lots e in omega (arith, all, fewer))
      rest false e fewer =
          ap (λ b. if b then None else Some (order_after before_it leg.lots (next_moment events contract.hour))) e ∙ ap Some (sym record-filled)

  pub filled-next : (next : Resting) → filling.next ≡ Some next → (is_open after order.name ≡ true) × (next ≡ resting_of (standing after order))
  filled-next next is = go (left events order.name == leg.lots) refl
    where
      go : (b : Bool) → (left events order.name == leg.lots) ≡ b → (is_open after order.name ≡ true) × (next ≡ resting_of (standing after order))
      go true e =
          let none : None ≡ Some next =
          sym (ap (λ b. if b then None else Some (order_after before_it leg.lots (next_moment events contract.hour))) e) ∙ is in absurd (cc)
      go false e =
          let some : Some (order_after before_it leg.lots (next_moment events contract.hour)) ≡ Some next =
          sym (ap (λ b. if b then None else Some (order_after before_it leg.lots (next_moment events contract.hour))) e) ∙ is in
          let same : order_after before_it leg.lots (next_moment events contract.hour) ≡ next = cc in
          let differs : left events order.name ≢ leg.lots = λ all. true≢false (sym (eq-eqb (left events order.name) leg.lots all) ∙ e) in
          let less = left-filled in
          (lt-ltb 0 (left after order.name) (omega (arith, has, differs, less)), sym same ∙ sym record-filled)
