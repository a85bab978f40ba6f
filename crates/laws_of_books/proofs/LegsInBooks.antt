-- A leg fills its maker and its taker in the book of its hour.
use Rattle.std.proofs.Common.{◌≡◌, ◌≢◌, ◌∙◌, inl, inr, ℕ, ◌≤◌, ◌==◌, Bool, true, false, List, [], ◌∷◌, Option, Some, None, map, eq-eqb, eqb-true, refl, sym, ap, subst, if◌then◌else◌}
use Rattle.std.proofs.lemmas.Bool.{true≢false}
use Rattle.order_kinds.specs.declared.contract.Contract.{Contract}
use Rattle.order_kinds.specs.declared.contract.Part.{Part}
use Rattle.order_kinds.specs.declared.order.OrderName.{OrderName}
use Rattle.order_kinds.specs.declared.side.Side.{Side}
use Rattle.order_kinds.specs.declared.side.Side.TheVariants.{Buy, Sell}
use Rattle.order_kinds.specs.Contract.{is_known}
use Rattle.order_kinds.specs.Side.{opposite}
use Rattle.zone_graph.specs.Route.{IsIn}
use Rattle.contract_book.specs.declared.resting.Resting.{Resting}
use Rattle.contract_book.specs.Book.{filled, line_without, order_of, without}
use Rattle.contract_book.specs.Resting.{order_after}
use Rattle.contract_book.proofs.Told.{filled-emptied, filled-rest}
use Rattle.market_model.specs.declared.event.Event.{Event}
use Rattle.market_model.specs.declared.event.Event.TheVariants as event
use Rattle.market_model.specs.declared.event.Leg.{Leg}
use Rattle.market_model.specs.declared.setup.Setup.{Setup}
use Rattle.market_model.specs.History.{and_then}
use Rattle.market_model.specs.Orders.{Placed, is_open, left, names, placed, standing}
use Rattle.market_model.specs.WellFormed.{FitAfter, Fits}
use Rattle.laws_of_market.proofs.Balances.{maker_has-leg, names-maker, names-taker, taker_has-leg}
use Rattle.laws_of_market.proofs.Names.{names-once}
use Rattle.laws_of_market.proofs.Placed.{all_are_sound}
use Rattle.laws_of_market.proofs.Unique.{one_order}
use Rattle.laws_of_market.proofs.Wholes.{names-other}
use Rattle.laws_of_books.specs.BookOf.{book_by, book_of, contract_of, next_moment, resting_line, resting_of}
use Rattle.laws_of_books.proofs.ChangedOrders.{AreChanges, book-changed, changes-sided, hour_of, only-record}
use Rattle.laws_of_books.proofs.LegFills.{fill_of, filled-next, next-filled, next_record}
use Rattle.laws_of_books.proofs.LineOrders.{in_resting, resting-strict, same_names}
use Rattle.laws_of_books.proofs.PartLines.{book_by-same, order_of-by}
use Rattle.laws_of_books.proofs.Updates.{Change, from_after, from_less, in_after, in_less, less-both, line_after, lines_after}

-- a fill changes the record of an order in the lines of a book
pub fill-by : (book : List (List Resting)) (order : Resting) (lots moment : ℕ) → order_of book order.number ≡ Some order
    → filled book order.number lots moment ≡ map (line_after (fill_of order lots moment)) book
fill-by book order lots moment found = go (order.left == lots) refl
  where
    by_next : Option Resting → List (List Resting)
    by_next next = map (line_after (record { number = order.number; next = next })) book

    go : (b : Bool) → (order.left == lots) ≡ b → filled book order.number lots moment ≡ by_next (next_record order lots moment)
    go true e =
        filled-emptied book order.number order found lots moment (eqb-true order.left lots e)
        ∙ sym (ap (λ b. by_next (if b then None else Some (order_after order lots moment))) e)
    go false e =
        filled-rest book order.number order found lots moment (λ all. true≢false (sym (eq-eqb order.left lots all) ∙ e))
        ∙ sym (ap (λ b. by_next (if b then None else Some (order_after order lots moment))) e)

pub opposite-differs : (side : Side) → side ≡ opposite side → ⊥
opposite-differs Buy is = absurd (cc)
opposite-differs Sell is = absurd (cc)

module _ (setup : Setup) (events : List Event) (fit : FitAfter setup [] events) (contract : Contract) (leg : Leg)
    (fits : Fits setup events (event.Leg contract leg)) where
  abbrev trade : Event
  trade = event.Leg contract leg

  abbrev after : List Event
  after = and_then events trade

  abbrev later : ℕ
  later = next_moment events contract.hour

  abbrev maker : Placed
  maker = fits.maker

  abbrev taker : Placed
  taker = fits.taker

  abbrev maker_at : Resting
  maker_at = resting_of (standing events maker)

  abbrev taker_at : Resting
  taker_at = resting_of (standing events taker)

  abbrev maker_fill : Change
  maker_fill = fill_of maker_at leg.lots later

  abbrev taker_fill : Change
  taker_fill = fill_of taker_at leg.lots later

  maker_hour : maker.name.hour ≡ contract.hour
  maker_hour = hour_of setup events fit contract maker fits.maker_open.is_placed fits.maker_contract

  taker_hour : taker.name.hour ≡ contract.hour
  taker_hour = hour_of setup events fit contract taker fits.taker_open.is_placed fits.taker_contract

  maker_named : names leg maker.name ≡ true
  maker_named = subst (λ n. names leg n ≡ true) (sym fits.maker_open.is_named) (names-maker leg)

  taker_named : names leg taker.name ≡ true
  taker_named = subst (λ n. names leg n ≡ true) (sym fits.taker_open.is_named) (names-taker leg)

  maker_has : leg.lots ≤ left events maker.name
  maker_has = subst (λ n. leg.lots ≤ left events n) (sym fits.maker_open.is_named) (maker_has-leg setup events contract leg fits)

  taker_has : leg.lots ≤ left events taker.name
  taker_has = subst (λ n. leg.lots ≤ left events n) (sym fits.taker_open.is_named) (taker_has-leg setup events contract leg fits)

  maker_opened : is_open events maker.name ≡ true
  maker_opened = subst (λ n. is_open events n ≡ true) (sym fits.maker_open.is_named) fits.maker_open.is_left

  taker_opened : is_open events taker.name ≡ true
  taker_opened = subst (λ n. is_open events n ≡ true) (sym fits.taker_open.is_named) fits.taker_open.is_left

  -- they have two numbers
  differ : maker.name.number ≢ taker.name.number
  differ same =
      let one : maker ≡ taker =
      one_order events (names-once setup events fit) maker taker fits.maker_open.is_placed fits.taker_open.is_placed
      (same_names maker.name taker.name (maker_hour ∙ sym taker_hour) same) in
      opposite-differs taker.order.side (ap (λ (p : Placed). p.order.side) (sym one) ∙ fits.opposed)

  is_one : (own order : Placed) → IsIn own (placed events) → IsIn order (placed events) → own.name.hour ≡ contract.hour → order.name.hour ≡ contract.hour
      → order.name.number ≡ own.name.number → own ≡ order
  is_one own order own_there there own_hour hours numbers =
      one_order events (names-once setup events fit) own order own_there there (same_names own.name order.name (own_hour ∙ sym hours) (sym numbers))

  -- what a fill of one of the two does
  record DoesFill (own : Placed) (change : Change) : Type 0 where
    of_number : (next : Resting) → change.next ≡ Some next → next.number ≡ change.number
    stays : (order : Placed) → IsIn order (placed events) → order.name.hour ≡ contract.hour → order.name.number ≡ change.number
        → is_open after order.name ≡ true
        → (is_open events order.name ≡ true) × (change.next ≡ Some (resting_of (standing after order)))
    comes : (order : Placed) → IsIn order (placed events) → order.name.hour ≡ contract.hour → order.name.number ≡ change.number
        → is_open events order.name ≡ true
        → (next : Resting) → change.next ≡ Some next → (is_open after order.name ≡ true) × (next ≡ resting_of (standing after order))

  does_fill : (own : Placed) → IsIn own (placed events) → own.name.hour ≡ contract.hour → names leg own.name ≡ true → leg.lots ≤ left events own.name
      → is_open events own.name ≡ true
      → DoesFill own (fill_of (resting_of (standing events own)) leg.lots later)
  does_fill own own_there own_hour own_named own_has opened = record {
    of_number = λ next is. ap (λ (r : Resting). r.number) (filled-next setup events fit contract leg fits own own_hour own_named own_has next is).1;
    stays = λ order there hours numbers open_after.
        let same = is_one own order own_there there own_hour hours numbers in (
          subst (λ (p : Placed). is_open events p.name ≡ true) same opened,
          next-filled setup events fit contract leg fits own own_hour own_named own_has (subst (λ (p : Placed). is_open after p.name ≡ true) (sym same) open_after)
              ∙ ap (λ p. Some (resting_of (standing after p))) same,
        );
    comes = λ order there hours numbers was next is.
        let same = is_one own order own_there there own_hour hours numbers in
        let now = filled-next setup events fit contract leg fits own own_hour own_named own_has next is in
        (subst (λ (p : Placed). is_open after p.name ≡ true) same now.0, now.1 ∙ ap (λ p. resting_of (standing after p)) same);
  }

  maker_does : DoesFill maker maker_fill
  maker_does = does_fill maker fits.maker_open.is_placed maker_hour maker_named maker_has maker_opened

  taker_does : DoesFill taker taker_fill
  taker_does = does_fill taker fits.taker_open.is_placed taker_hour taker_named taker_has taker_opened

  abbrev fills : List Change
  fills = maker_fill ∷ taker_fill ∷ []

  -- what holds of both fills holds of each
  each-fill : (P : Change → Type 0) → P maker_fill → P taker_fill → (change : Change) → IsIn change fills → P change
  each-fill P first second change i = elim i [
    | inl same ↦ subst P (sym same) first
    | inr j ↦ elim j [ inl same ↦ subst P (sym same) second | inr k ↦ absurd k ]
  ]

  are-fills : AreChanges events trade contract.hour fills
  are-fills = record {
    none_enters = refl;
    numbers = each-fill (λ change. (next : Resting) → change.next ≡ Some next → next.number ≡ change.number) maker_does.of_number taker_does.of_number;
    differ = (λ other i. elim i [ inl same ↦ λ e. differ (e ∙ ap (λ (c : Change). c.number) same) | inr j ↦ absurd j ], (λ other i. absurd i, tt));
    others = λ order there hours none.
        names-other leg order.name
        (λ same. none taker_fill (inr (inl refl)) (ap (λ (n : OrderName). n.number) (sym (fits.taker_open.is_named ∙ same))))
        (λ same. none maker_fill (inl refl) (ap (λ (n : OrderName). n.number) (sym (fits.maker_open.is_named ∙ same))));
    stays =
        each-fill (λ change. (order : Placed) → IsIn order (placed events) → order.name.hour ≡ contract.hour → order.name.number ≡ change.number → is_open after order.name ≡ true
        → (is_open events order.name ≡ true) × (change.next ≡ Some (resting_of (standing after order)))) maker_does.stays taker_does.stays;
    comes =
        each-fill (λ change. (order : Placed) → IsIn order (placed events) → order.name.hour ≡ contract.hour → order.name.number ≡ change.number → is_open events order.name ≡ true
        → (next : Resting) → change.next ≡ Some next
        → (is_open after order.name ≡ true) × (next ≡ resting_of (standing after order))) maker_does.comes taker_does.comes;
  }

  -- the lines of the hour before the leg
  abbrev lines : Part → Side → List Resting
  lines part side = resting_line events (contract_of contract.hour part) side

  known : (own : Placed) → IsIn own (placed events) → is_known own.order.contract.part ≡ true
  known own there = ((all_are_sound setup events fit).orders own there).in_part

  in_lines : (own : Placed) → IsIn own (placed events) → own.order.contract ≡ contract → is_open events own.name ≡ true
      → IsIn (resting_of (standing events own)) (lines own.order.contract.part own.order.side)
  in_lines own there of_contract opened =
      in_resting events (contract_of contract.hour own.order.contract.part) own.order.side (resting_of (standing events own)) (record {
        order = own;
        is_placed = there;
        is_left = opened;
        of_contract = ap (λ h. contract_of h own.order.contract.part) (ap (λ (c : Contract). c.hour) of_contract);
        on_side = refl;
        is = refl;
      })

  -- the book after the fill of the maker has the taker as it was
  taker-found : order_of (book_by (λ p s. line_after maker_fill (lines p s))) taker_at.number ≡ Some taker_at
  taker-found =
      order_of-by (λ p s. line_after maker_fill (lines p s)) taker_at.number taker_at taker.order.contract.part taker.order.side (known taker fits.taker_open.is_placed)
      (in_after maker_fill (lines taker.order.contract.part taker.order.side) taker_at maker_does.of_number
      (inl (in_lines taker fits.taker_open.is_placed fits.taker_contract taker_opened, λ same. differ (sym same))))
      refl
      (λ p s other part_known i is. elim (from_after maker_fill (lines p s) other maker_does.of_number i) [
        | inl old ↦ only-record setup events fit (contract_of contract.hour p) s other taker fits.taker_open.is_placed taker_hour old.0 is
        | inr new ↦ absurd (differ (sym (maker_does.of_number other new.1) ∙ is))
      ])

  maker-found : order_of (book_by lines) maker_at.number ≡ Some maker_at
  maker-found =
      order_of-by lines maker_at.number maker_at maker.order.contract.part maker.order.side (known maker fits.maker_open.is_placed)
      (in_lines maker fits.maker_open.is_placed fits.maker_contract maker_opened) refl
      (λ p s other part_known i is. only-record setup events fit (contract_of contract.hour p) s other maker fits.maker_open.is_placed maker_hour i is)

  -- both are filled, first the maker
  filled-both : book_by (λ p s. lines_after fills (lines p s))
      ≡ filled (filled (book_by lines) maker_at.number leg.lots later) taker_at.number leg.lots later
  filled-both =
      sym (ap (λ b. filled b taker_at.number leg.lots later) (fill-by (book_by lines) maker_at leg.lots later maker-found)
      ∙ fill-by (book_by (λ p s. line_after maker_fill (lines p s))) taker_at leg.lots later taker-found)

  pub book-filled : book_of after contract.hour
      ≡ filled (filled (book_of events contract.hour) leg.maker.number leg.lots later) leg.taker.number leg.lots later
  unfolding book_of
  book-filled =
      book-changed setup events fit trade fits contract.hour fills are-fills
      ∙ filled-both
      ∙ ap (λ n. filled (filled (book_by lines) n leg.lots later) taker_at.number leg.lots later) (ap (λ (n : OrderName). n.number) fits.maker_open.is_named)
      ∙ ap (λ n. filled (filled (book_by lines) leg.maker.number leg.lots later) n leg.lots later) (ap (λ (n : OrderName). n.number) fits.taker_open.is_named)

  -- a book without the taker has the maker as it was
  maker-found-alone : order_of (book_by (λ p s. line_without taker_at.number (lines p s))) maker_at.number ≡ Some maker_at
  maker-found-alone =
      order_of-by (λ p s. line_without taker_at.number (lines p s)) maker_at.number maker_at maker.order.contract.part maker.order.side (known maker fits.maker_open.is_placed)
      (in_less taker_at.number (lines maker.order.contract.part maker.order.side) maker_at (in_lines maker fits.maker_open.is_placed fits.maker_contract maker_opened) differ)
      refl
      (λ p s other part_known i is.
      only-record setup events fit (contract_of contract.hour p) s other maker fits.maker_open.is_placed maker_hour (from_less taker_at.number (lines p s) other i).0 is)

  line-alone : (part : Part) (side : Side)
      → line_without taker_at.number (lines_after fills (lines part side)) ≡ line_after maker_fill (line_without taker_at.number (lines part side))
  line-alone part side =
      let sided = changes-sided setup events fit trade fits contract.hour fills are-fills (contract_of contract.hour part) side refl in
      less-both side maker_fill taker_fill (lines part side) maker_does.of_number taker_does.of_number differ (sided maker_fill (inl refl)) (sided taker_fill (inr (inl refl)))
      (resting-strict setup events fit (contract_of contract.hour part) side)

  -- without the taker the maker alone is filled
  filled-alone : without (book_of after contract.hour) taker_at.number
      ≡ filled (without (book_of events contract.hour) taker_at.number) maker_at.number leg.lots later
  unfolding book_of
  filled-alone =
      ap (λ b. without b taker_at.number) (book-changed setup events fit trade fits contract.hour fills are-fills)
      ∙ book_by-same (λ p s. line_without taker_at.number (lines_after fills (lines p s))) (λ p s. line_after maker_fill (line_without taker_at.number (lines p s)))
      (λ p s part_known. line-alone p s)
      ∙ sym (fill-by (book_by (λ p s. line_without taker_at.number (lines p s))) maker_at leg.lots later maker-found-alone)

  pub book-filled-alone : without (book_of after contract.hour) leg.taker.number
      ≡ filled (without (book_of events contract.hour) leg.taker.number) leg.maker.number leg.lots later
  book-filled-alone =
      ap (λ n. without (book_of after contract.hour) n) (ap (λ (n : OrderName). n.number) (sym fits.taker_open.is_named))
      ∙ filled-alone
      ∙ ap (λ n. filled (without (book_of events contract.hour) n) maker_at.number leg.lots later) (ap (λ (n : OrderName). n.number) fits.taker_open.is_named)
      ∙ ap (λ n. filled (without (book_of events contract.hour) leg.taker.number) n leg.lots later) (ap (λ (n : OrderName). n.number) fits.maker_open.is_named)
