-- What a leg makes of the book and the flows of its hour, with an order in hand or none.
use Rattle.std.proofs.Common.{◌≡◌, ◌≢◌, ◌∙◌, inl, inr, ℕ, zero, suc, ◌+◌, true, false, List, [], ◌∷◌, length, map, get_or, Option, Some, None, eq-eqb, eqb-true, refl, sym, ap, subst}
use Rattle.std.proofs.lemmas.Bool.{true≢false}
use Rattle.order_kinds.specs.declared.contract.Contract.{Contract}
use Rattle.order_kinds.specs.declared.contract.Part.{Part}
use Rattle.order_kinds.specs.declared.order.OrderName.{OrderName}
use Rattle.order_kinds.specs.declared.side.Side.{Side}
use Rattle.order_kinds.specs.declared.side.Side.TheVariants.{Buy, Sell}
use Rattle.order_kinds.specs.Contract.{is_known, part_number}
use Rattle.zone_graph.specs.Graph.{Graph}
use Rattle.zone_graph.specs.Route.{IsIn}
use Rattle.zone_graph.proofs.Membership.{from_flat_map}
use Rattle.contract_book.specs.declared.resting.Resting.{Resting}
use Rattle.contract_book.specs.Book.{filled, line_number, line_of, line_without, order_of}
use Rattle.market_model.specs.declared.event.Event.{Event}
use Rattle.market_model.specs.declared.event.Event.TheVariants as event
use Rattle.market_model.specs.declared.event.Leg.{Leg}
use Rattle.market_model.specs.declared.setup.Setup.{Setup}
use Rattle.market_model.specs.History.{and_then}
use Rattle.market_model.specs.Orders.{Placed, is_open, placed, standing}
use Rattle.market_model.specs.WellFormed.{FitAfter, Fits, LegFits}
use Rattle.laws_of_market.proofs.Names.{names-once}
use Rattle.laws_of_market.proofs.Placed.{all_are_sound}
use Rattle.laws_of_market.proofs.Unique.{one_order}
use Rattle.laws_of_books.specs.BookOf.{book_of, contract_of, next_moment, numbered_parts, resting_line, resting_of}
use Rattle.laws_of_books.proofs.ChangedOrders.{hour_of, only-record}
use Rattle.laws_of_books.proofs.LegFills.{fill_of}
use Rattle.laws_of_books.proofs.LegsInBooks.{book-filled, opposite-differs}
use Rattle.laws_of_books.proofs.LineOrders.{from_resting, in_resting, resting-strict, same_names}
use Rattle.laws_of_books.proofs.PartLines.{from_book, line_of-book}
use Rattle.laws_of_books.proofs.TakenOff.{order_of-open}
use Rattle.laws_of_books.proofs.Updates.{Change, in_after, in_less, line_after}
use Rattle.laws_of_books.proofs.BlocksElsewhere as blocks
use Rattle.laws_of_hours.specs.Standing.{Stands}
use Rattle.laws_of_hours.proofs.Callable as callable
use Rattle.laws_of_hours.proofs.Noted as noted
use Rattle.laws_of_hours.specs.NextEvents.{IsNext}
use Rattle.laws_of_hours.specs.OrderEvents.{CanFill, IsMade, LegsAreMade, filled_beside, holds, without_hand}
use Rattle.laws_of_hours.proofs.NextEvents.{after, before, blocks-are, book-is, flows-to, moment-is, next}
use Rattle.laws_of_hours.proofs.Numbers.{same-next}
use Rattle.laws_of_hours.proofs.OrderlyBooks.{IsOrderly, IsSided, fill-own, filled-by, filled-hand, found-beside, found-hand, numbered, orderly-filled}

-- ---- lines of changed books

pub line-map : (f : List Resting → List Resting) → f [] ≡ [] → (book : List (List Resting)) (place : ℕ) → get_or (map f book) place [] ≡ f (get_or book place [])
line-map f none [] place = sym none
line-map f none (line ∷ book) zero = refl
line-map f none (line ∷ book) (suc place) = line-map f none book place

after-none : (change : Change) → line_after change [] ≡ []
after-none change = go change.next
  where
    go : (next : Option Resting) → line_after (record change { next = next }) [] ≡ []
    go None = refl
    go (Some order) = refl

-- an order of a line of another number than the one in hand is in the line without that one
in-line-hand : (hand : Option ℕ) (book : List (List Resting)) (part : ℕ) (side : Side) (order : Resting) → IsIn order (line_of book part side)
    → holds hand order.number ≡ false → IsIn order (line_of (without_hand hand book) part side)
in-line-hand None book part side order i beside = i
in-line-hand (Some held) book part side order i beside =
    subst (IsIn order) (sym (line-map (line_without held) refl book (line_number part side)))
    (in_less held (line_of book part side) order i (λ same. true≢false (sym (eq-eqb held order.number (sym same)) ∙ beside)))

-- ---- a leg that fits a history

module _ (setup : Setup) (history : List Event) (fit : FitAfter setup [] history) where
  -- the book of an hour is orderly
  pub orderly : (hour : ℕ) → IsOrderly (book_of history hour)
  unfolding book_of
  orderly hour = record {
    each = λ line i.
        let pair = from_flat_map (λ (part : Part). resting_line history (contract_of hour part) Buy ∷ resting_line history (contract_of hour part) Sell ∷ [])
        line numbered_parts i in
        elim pair.2 [
          | inl buys ↦ subst IsSided (sym buys) (sided (contract_of hour pair.0) Buy)
          | inr later ↦ elim later [ inl sells ↦ subst IsSided (sym sells) (sided (contract_of hour pair.0) Sell) | inr none ↦ absurd none ]
        ];
    once = λ one other i j same.
        let at = from_book (λ p s. resting_line history (contract_of hour p) s) one i in
        let there = from_book (λ p s. resting_line history (contract_of hour p) s) other j in
        let placed_one = from_resting history (contract_of hour at.0) at.1 one at.3 in
        let its_hour = hour_of setup history fit (contract_of hour at.0) placed_one.order placed_one.is_placed placed_one.of_contract in
        let own : one.number ≡ placed_one.order.name.number = ap (λ (r : Resting). r.number) placed_one.is in
        only-record setup history fit (contract_of hour at.0) at.1 one placed_one.order placed_one.is_placed its_hour at.3 own
        ∙ sym (only-record setup history fit (contract_of hour there.0) there.1 other placed_one.order placed_one.is_placed its_hour there.3 (sym same ∙ own));
  }
    where
      sided : (contract : Contract) (side : Side) → IsSided (resting_line history contract side)
      sided contract side = record {
        side = side;
        strict = resting-strict setup history fit contract side;
        sided = λ x i.
            let there = from_resting history contract side x i in
            ap (λ (r : Resting). r.side) there.is ∙ there.on_side;
      }

  module _ (contract : Contract) (leg : Leg) (fits : Fits setup history (event.Leg contract leg)) where
    abbrev book : List (List Resting)
    book = book_of history contract.hour

    abbrev moment : ℕ
    moment = next_moment history contract.hour

    abbrev part : ℕ
    part = part_number contract.part

    maker_hour : fits.maker.name.hour ≡ contract.hour
    maker_hour = hour_of setup history fit contract fits.maker fits.maker_open.is_placed fits.maker_contract

    taker_hour : fits.taker.name.hour ≡ contract.hour
    taker_hour = hour_of setup history fit contract fits.taker fits.taker_open.is_placed fits.taker_contract

    abbrev maker_at : Resting
    maker_at = resting_of (standing history fits.maker)

    abbrev taker_at : Resting
    taker_at = resting_of (standing history fits.taker)

    pub known : is_known contract.part ≡ true
    known = subst (λ (c : Contract). is_known c.part ≡ true) fits.taker_contract ((all_are_sound setup history fit).orders fits.taker fits.taker_open.is_placed).in_part

    pub apart : leg.maker.number ≢ leg.taker.number
    apart same =
        let numbers : fits.maker.name.number ≡ fits.taker.name.number =
        ap (λ (n : OrderName). n.number) fits.maker_open.is_named ∙ same ∙ ap (λ (n : OrderName). n.number) (sym fits.taker_open.is_named) in
        let one : fits.maker ≡ fits.taker =
        one_order history (names-once setup history fit) fits.maker fits.taker fits.maker_open.is_placed fits.taker_open.is_placed
        (same_names fits.maker.name fits.taker.name (maker_hour ∙ sym taker_hour) numbers) in
        opposite-differs fits.taker.order.side (ap (λ (p : Placed). p.order.side) (sym one) ∙ fits.opposed)

    -- an open order of the contract is found, and stands in its line
    found : (own : Placed) (name : OrderName) → IsIn own (placed history) → own.name ≡ name → is_open history name ≡ true → own.name.hour ≡ contract.hour
        → order_of book name.number ≡ Some (resting_of (standing history own))
    found own name there named opened of_hour =
        subst (λ h. order_of (book_of history h) name.number ≡ Some (resting_of (standing history own))) of_hour
        (ap (order_of (book_of history own.name.hour)) (ap (λ (n : OrderName). n.number) (sym named))
        ∙ order_of-open setup history fit own there (subst (λ n. is_open history n ≡ true) (sym named) opened))

    in-line : (own : Placed) → IsIn own (placed history) → is_open history own.name ≡ true → own.order.contract ≡ contract
        → IsIn (resting_of (standing history own)) (line_of book part own.order.side)
    in-line own there opened of_contract =
        subst (IsIn (resting_of (standing history own))) (sym (line_of-book history contract.hour contract.part own.order.side known))
        (in_resting history contract own.order.side (resting_of (standing history own)) (record {
          order = own;
          is_placed = there;
          is_left = opened;
          of_contract = of_contract;
          on_side = refl;
          is = refl;
        }))

    maker_found : order_of book leg.maker.number ≡ Some maker_at
    maker_found = found fits.maker leg.maker fits.maker_open.is_placed fits.maker_open.is_named fits.maker_open.is_left maker_hour

    taker_found : order_of book leg.taker.number ≡ Some taker_at
    taker_found = found fits.taker leg.taker fits.taker_open.is_placed fits.taker_open.is_named fits.taker_open.is_left taker_hour

    abbrev mid : List (List Resting)
    mid = filled book leg.maker.number leg.lots moment

    mid_orderly : IsOrderly mid
    mid_orderly = orderly-filled book (orderly contract.hour) leg.maker.number maker_at maker_found leg.lots moment

    mid_found : order_of mid leg.taker.number ≡ Some taker_at
    mid_found = found-beside book (orderly contract.hour) leg.maker.number maker_at maker_found leg.lots moment leg.taker.number taker_at taker_found (λ same. apart (sym same))

    abbrev maker_fill : Change
    maker_fill = fill_of maker_at leg.lots moment

    taker_in_mid : IsIn taker_at (line_of mid part taker_at.side)
    taker_in_mid =
        let opened : is_open history fits.taker.name ≡ true = subst (λ n. is_open history n ≡ true) (sym fits.taker_open.is_named) fits.taker_open.is_left in
        let there = in-line fits.taker fits.taker_open.is_placed opened fits.taker_contract in
        let numbers = numbered book (orderly contract.hour) leg.maker.number maker_at maker_found leg.lots moment in
        let own = numbered book (orderly contract.hour) leg.taker.number taker_at taker_found leg.lots moment in
        subst (IsIn taker_at)
        (sym (ap (λ b. line_of b part taker_at.side) (filled-by book (orderly contract.hour) leg.maker.number maker_at maker_found leg.lots moment)
        ∙ line-map (line_after maker_fill) (after-none maker_fill) book (line_number part taker_at.side)))
        (in_after maker_fill (line_of book part taker_at.side) taker_at (fill-own book (orderly contract.hour) leg.maker.number maker_at maker_found leg.lots moment)
        (inl (there, λ same. apart (sym numbers ∙ sym same ∙ own))))

    pub maker-can : (hand : Option ℕ) → holds hand leg.maker.number ≡ false → CanFill (without_hand hand book) part leg.maker.number leg.lots
    maker-can hand beside =
        let opened : is_open history fits.maker.name ≡ true = subst (λ n. is_open history n ≡ true) (sym fits.maker_open.is_named) fits.maker_open.is_left in
        let own = numbered book (orderly contract.hour) leg.maker.number maker_at maker_found leg.lots moment in
        record {
          order = maker_at;
          found = found-hand book (orderly contract.hour) leg.maker.number maker_at maker_found leg.lots moment hand beside;
          in_line = in-line-hand hand book part maker_at.side maker_at (in-line fits.maker fits.maker_open.is_placed opened fits.maker_contract)
              (ap (holds hand) own ∙ beside);
          some = fits.some;
          shows = fits.maker_shows;
        }

    pub taker-can : (hand : Option ℕ) → holds hand leg.taker.number ≡ false
        → CanFill (filled_beside hand leg.maker.number leg.lots moment (without_hand hand book)) part leg.taker.number leg.lots
    taker-can hand beside =
        let own = numbered mid mid_orderly leg.taker.number taker_at mid_found leg.lots moment in
        subst (λ b. CanFill b part leg.taker.number leg.lots) (filled-hand book (orderly contract.hour) leg.maker.number maker_at maker_found leg.lots moment hand)
        (record {
          order = taker_at;
          found = found-hand mid mid_orderly leg.taker.number taker_at mid_found leg.lots moment hand beside;
          in_line = in-line-hand hand mid part taker_at.side taker_at taker_in_mid (ap (holds hand) own ∙ beside);
          some = fits.some;
          shows = fits.taker_shows;
        })

    pub book-hand : (hand : Option ℕ) → without_hand hand (book_of (and_then history (event.Leg contract leg)) contract.hour)
        ≡ filled_beside hand leg.taker.number leg.lots moment (filled_beside hand leg.maker.number leg.lots moment (without_hand hand book))
    book-hand hand =
        ap (without_hand hand) (book-filled setup history fit contract leg fits)
        ∙ filled-hand mid mid_orderly leg.taker.number taker_at mid_found leg.lots moment hand
        ∙ ap (filled_beside hand leg.taker.number leg.lots moment) (filled-hand book (orderly contract.hour) leg.maker.number maker_at maker_found leg.lots moment hand)

-- ---- the hour's events alone

module _ (graph : Graph) (events : List Event) (contract : Contract) (leg : Leg) (own : IsNext graph contract.hour events (event.Leg contract leg)) where
  is-made : IsMade graph contract.hour events (and_then events (event.Leg contract leg)) contract leg
  is-made =
      let hour : ℕ = contract.hour in
      let trade : Event = event.Leg contract leg in
      let old = before graph hour events trade own in
      let new = after graph hour events trade own in
      let fits : LegFits own.setup own.history contract leg = own.fits in
      let book = book-is graph hour events old in
      let moment = moment-is graph hour events old in
      record {
        in_hour = refl;
        in_part = known own.setup own.history own.fit contract leg fits;
        apart = apart own.setup own.history own.fit contract leg fits;
        maker = λ hand beside. subst (λ b. CanFill (without_hand hand b) (part_number contract.part) leg.maker.number leg.lots) (sym book)
            (maker-can own.setup own.history own.fit contract leg fits hand beside);
        taker = λ hand beside.
            subst (λ n. CanFill (filled_beside hand leg.maker.number leg.lots n (without_hand hand (book_of events hour))) (part_number contract.part) leg.taker.number leg.lots) moment
            (subst (λ b. CanFill (filled_beside hand leg.maker.number leg.lots (next_moment own.history hour) (without_hand hand b)) (part_number contract.part) leg.taker.number leg.lots) (sym book)
            (taker-can own.setup own.history own.fit contract leg fits hand beside));
        book = λ hand.
            ap (without_hand hand) (book-is graph hour (and_then events trade) new)
            ∙ book-hand own.setup own.history own.fit contract leg fits hand
            ∙ ap (λ n. filled_beside hand leg.taker.number leg.lots n (filled_beside hand leg.maker.number leg.lots n (without_hand hand (book_of own.history hour)))) moment
            ∙ ap (λ b. filled_beside hand leg.taker.number leg.lots (length events + 1) (filled_beside hand leg.maker.number leg.lots (length events + 1) (without_hand hand b))) (sym book);
        blocks = blocks-are graph hour (and_then events trade) new
            ∙ blocks.book-elsewhere own.setup own.history own.fit hour trade fits tt ∙ sym (blocks-are graph hour events old);
        can_carry = λ set flows is of_part.
            callable.legs own.setup own.history contract leg set flows own.fit fits
            (subst (λ g. Stands g own.history hour flows) (sym own.over_grid) (flows-to graph hour events old flows is)) of_part;
        flows = λ set one other is of_part carried. noted.legs graph events contract leg set one other is of_part carried;
        same_next = same-next hour events trade refl;
      }

pub made : LegsAreMade
made graph hour events contract leg stands =
    let trade : Event = event.Leg contract leg in
    let own = next graph hour events trade stands in
    let in_hour : contract.hour ≡ hour = eqb-true contract.hour hour own.touched in
    let at = is-made graph events contract leg (subst (λ h. IsNext graph h events trade) (sym in_hour) own) in
    subst (λ h. IsMade graph h events (and_then events trade) contract leg) in_hour at
