-- A leg is made in a kept hour.
use Rattle.std.proofs.Common.{◌≡◌, ◌≢◌, ◌∙◌, inl, inr, ℕ, ◌+◌, ◌<◌, List, [], ◌∷◌, length, refl, sym, ap, subst, arith}
use Rattle.std.proofs.lemmas.List.Elements.{filter_map-append}
use Rattle.order_kinds.specs.declared.contract.Contract.{Contract}
use Rattle.order_kinds.specs.declared.order.OrderName.{OrderName}
use Rattle.order_kinds.specs.Contract.{contract_at}
use Rattle.zone_graph.specs.Route.{IsIn}
use Rattle.zone_graph.proofs.Membership.{IsIn-left}
use Rattle.contract_book.specs.declared.resting.Resting.{Resting}
use Rattle.contract_book.specs.Book.{line_of}
use Rattle.market_model.specs.declared.event.Event.{Event}
use Rattle.market_model.specs.declared.event.Event.TheVariants as event
use Rattle.market_model.specs.declared.event.Leg.{Leg}
use Rattle.market_model.specs.Board.{CanBeMade, IsBoard, after_leg}
use Rattle.market_model.specs.History.{and_then}
use Rattle.market_model.specs.Orders.{Placed, next_name, placed, placed_by}
use Rattle.market_model.specs.WellFormed.{IsOpenOrder}
use Rattle.laws_of_market.proofs.Placed.{picked-same}
use Rattle.laws_of_boards.proofs.Legs.{leaves}
use Rattle.laws_of_books.specs.BookOf.{book_of}
use Rattle.laws_of_books.specs.BlockLaws.{IsOfOrder}
use Rattle.laws_of_books.proofs.LineOrders.{same_names}
use Rattle.laws_of_hours.specs.OrderEvents.{CanFill, IsMade, filled_beside, without_hand}
use Rattle.laws_of_hours.proofs.Legs.{made}
use Rattle.hour_store.specs.Contents.{IsOfPart}
use Rattle.hour_store.specs.Store.{StillLeadsBack, Store}
use Rattle.hour_store.proofs.UndoneBooks.{found-number}
use Rattle.kept_hour.specs.Kept.{Keeps, names_given}
use Rattle.kept_hour.specs.Legs.{CanMakeIn, IsMadeIn, NotesLeg}
use Rattle.kept_hour.specs.State.{HourState, name_in}
use Rattle.kept_hour.proofs.Keeping.{KeepsNext}
use Rattle.kept_hour.proofs.NamedOrders.{found-where, from_filled, from_hand, named-hour}
use Rattle.kept_hour.proofs.Noting.{NotesNext}
use Rattle.kept_hour.proofs.Shows.{number-at}

-- a name that was an order's is one after more events
pub order-more : (events : List Event) (e : Event) (name : OrderName) → IsOfOrder events name → IsOfOrder (and_then events e) name
order-more events e name order = (
  order.0,
  subst (IsIn order.0) (sym (filter_map-append placed_by events (e ∷ []))) (IsIn-left order.0 (placed events) (placed (e ∷ [])) order.1),
  order.2,
)

-- the names that an hour has given are as many where the next name is the same
pub names-same : (hour : HourState) (e : Event) → next_name (and_then hour.board.events e) hour.board.hour ≡ next_name hour.board.events hour.board.hour
    → (numbers : ℕ) → numbers ≡ names_given hour.board → numbers ≡ names_given (record hour.board { events = and_then hour.board.events e })
names-same hour e same numbers is =
    let next = ap (λ (n : OrderName). n.number) same in
    omega (arith, next, is)

module _ (hour : HourState) (numbers settled_numbers : ℕ) (store : Store) (keeps : Keeps hour numbers settled_numbers store)
    (part : ℕ) (low : part < 7) (leg : Leg) (can : CanBeMade hour.board part leg) where
  abbrev contract : Contract
  contract = contract_at hour.board.hour part

  abbrev trade : Event
  trade = event.Leg contract leg

  abbrev moment : ℕ
  moment = length hour.board.events + 1

  board_after : IsBoard (after_leg hour.board part leg)
  board_after = leaves hour.board part leg keeps.board can

  is_made : IsMade hour.board.grid hour.board.hour hour.board.events (and_then hour.board.events trade) contract leg
  is_made = made hour.board.grid hour.board.hour hour.board.events contract leg board_after.stands

  pub can-make : CanMakeIn hour.board.hand part leg moment store.contents
  can-make = record {
    maker = λ beside.
        subst (λ b. CanFill b part leg.maker.number leg.lots) (sym keeps.contents.book)
        (subst (λ n. CanFill (without_hand hour.board.hand (book_of hour.board.events hour.board.hour)) n leg.maker.number leg.lots) (number-at part low)
        (is_made.maker hour.board.hand beside));
    taker = λ beside.
        subst (λ b. CanFill (filled_beside hour.board.hand leg.maker.number leg.lots moment b) part leg.taker.number leg.lots) (sym keeps.contents.book)
        (subst (λ n. CanFill (filled_beside hour.board.hand leg.maker.number leg.lots moment (without_hand hour.board.hand (book_of hour.board.events hour.board.hour)))
        n leg.taker.number leg.lots) (number-at part low)
        (is_made.taker hour.board.hand beside));
    can_carry = λ set of_part. is_made.can_carry set store.contents.flows keeps.contents.flows of_part;
  }

  -- a maker or taker has the hour's name of its number
  leg_name : (own : Placed) (name : OrderName) → IsOpenOrder hour.board.events own name → own.order.contract ≡ contract → name_in hour name.number ≡ name
  leg_name own name opened of_contract =
      same_names (name_in hour name.number) name
      (sym (ap (λ (n : OrderName). n.hour) (sym opened.is_named) ∙ named-hour hour keeps.board.stands own opened.is_placed ∙ ap (λ (c : Contract). c.hour) of_contract)) refl

  -- the book once the maker is filled
  abbrev mid : List (List Resting)
  mid = filled_beside hour.board.hand leg.maker.number leg.lots moment store.contents.book

  in-book : (order : Resting) → IsIn order (line_of store.contents.book part order.side) → IsOfPart (book_of hour.board.events hour.board.hour) part order
  in-book order i =
      from_hand hour.board.hand (book_of hour.board.events hour.board.hour) part order.side order
      (subst (λ b. IsIn order (line_of b part order.side)) keeps.contents.book i)

  leg-notes : (new : Store) → NotesLeg hour.board.hand part leg moment store.contents.book store.changes new.changes
      → NotesNext hour (trade ∷ []) hour.board.hand store.changes new.changes
  leg-notes new noted = record {
    orders = λ other side zone low more. elim (noted other side zone more) [
      | inl before ↦ inl before
      | inr now ↦ inr (elim now [
        | inl of_maker ↦
            let found = can-make.maker of_maker.0 in
            found-where hour keeps.board.stands trade store.contents.book leg.maker.number part found.order found.found (in-book found.order found.in_line)
            (inr (inl (leg_name can.2.maker leg.maker can.2.maker_open can.2.maker_contract))) other side zone low of_maker.1
        | inr of_taker ↦
            let found = can-make.taker of_taker.0 in
            let apart : found.order.number ≢ leg.maker.number =
            λ same. is_made.apart (sym same ∙ found-number mid leg.taker.number found.order found.found) in
            found-where hour keeps.board.stands trade mid leg.taker.number part found.order found.found
            (in-book found.order (from_filled hour.board.hand store.contents.book leg.maker.number leg.lots moment
            (λ beside. ((can-make.maker beside).order, (can-make.maker beside).found)) part found.order.side found.order apart found.in_line))
            (inl (leg_name can.2.taker leg.taker can.2.taker_open can.2.taker_contract)) other side zone low of_taker.1
      ])
    ];
    held = λ number order is there named. inl (is, subst (IsIn order) (picked-same placed_by hour.board.events trade refl) there);
    flows = λ more. inr refl;
  }

  pub made-next : (new : Store) → IsMadeIn hour.board.hand part leg moment store.contents new.contents → StillLeadsBack store new
      → NotesLeg hour.board.hand part leg moment store.contents.book store.changes new.changes
      → KeepsNext hour trade hour.board.hand numbers store new
  made-next new is back noted = record {
    next = board_after.stands;
    few = board_after.few;
    contents = record {
      book = is.book
          ∙ ap (λ b. filled_beside hour.board.hand leg.taker.number leg.lots moment (filled_beside hour.board.hand leg.maker.number leg.lots moment b)) keeps.contents.book
          ∙ sym (is_made.book hour.board.hand);
      blocks = is.blocks ∙ keeps.contents.blocks ∙ sym is_made.blocks;
      flows = is_made.flows is.set store.contents.flows new.contents.flows keeps.contents.flows is.of_part is.flows;
    };
    numbered = names-same hour trade is_made.same_next numbers keeps.numbered;
    in_hand = λ number holds. order-more hour.board.events trade (name_in hour number) (keeps.in_hand number holds);
    back = back;
    noted = leg-notes new noted;
  }
