-- What is open of an hour is withdrawn, one after the other.
use Rattle.std.proofs.Common.{◌≡◌, ◌≢◌, ◌∙◌, inl, inr, ℕ, ◌+◌, ◌<◌, List, [], ◌∷◌, ◌++◌, add-one, append_assoc, drop, drop-cons, flat_map, get_or, length, map, take, eqb-true, Option, Some, None, IfSome, refl, sym, ap, subst, if◌then◌else◌}
use Rattle.std.proofs.lemmas.List.{map_push, take_more}
use Rattle.order_kinds.specs.declared.contract.Contract.{Contract}
use Rattle.order_kinds.specs.declared.phase.Phase.{Phase}
use Rattle.order_kinds.specs.Contract.{part_number}
use Rattle.zone_graph.specs.Graph.{Graph}
use Rattle.zone_graph.specs.Route.{IsIn}
use Rattle.zone_graph.proofs.Finding.{from_find}
use Rattle.zone_graph.proofs.Membership.{IsIn-map}
use Rattle.contract_book.specs.declared.resting.Resting.{Resting}
use Rattle.contract_book.specs.Book.{has_number, line_of, order_of}
use Rattle.hour_store.specs.Contents.{IsOfPart}
use Rattle.market_model.specs.declared.event.Event.{Event}
use Rattle.market_model.specs.declared.event.Event.TheVariants as event
use Rattle.market_model.specs.Board.{BoardState, IsHourOf, with_events}
use Rattle.market_model.specs.History.{and_then}
use Rattle.market_model.specs.Orders.{left, placed_by}
use Rattle.laws_of_market.proofs.Placed.{picked-same}
use Rattle.laws_of_market.proofs.Wholes.{left-untouched, other_name}
use Rattle.laws_of_books.specs.BookOf.{book_of, contract_of, resting_line}
use Rattle.laws_of_books.proofs.ChangedOrders.{hour_of}
use Rattle.laws_of_books.proofs.LineOrders.{from_resting, same_names}
use Rattle.laws_of_books.proofs.PartLines.{from_book, line_of-book}
use Rattle.laws_of_boards.proofs.Fitting.{fits_in}
use Rattle.kept_hour.specs.Planned.{after_events}
use Rattle.kept_hour.specs.State.{HourState, after_event, with_board, with_hand, withdrawal_of}
use Rattle.desk_changes.specs.declared.still_open.StillOpen.{StillOpen}
use Rattle.desk_changes.specs.StillOpen.{CanEnd, IsStillOpen, name_of, withdrawal}
use Rattle.desk_changes.proofs.Names.{placed-in}
use Rattle.desk_changes.proofs.Opened.{with_more}
use Rattle.desk_changes.proofs.Quiet.{still-quiet}

-- ---- one of them

module _ (graph : Graph) (hour : ℕ) (events : List Event) (stands : IsHourOf graph hour events) (item : StillOpen) (is : IsStillOpen events hour item) where
  -- it can be withdrawn
  pub can-be-next : IsHourOf graph hour (and_then events (withdrawal hour item))
  can-be-next =
      subst (λ g. IsHourOf g hour (and_then events (withdrawal hour item))) stands.over_grid
      (fits_in stands.setup hour stands.history events (withdrawal hour item)
      (record { is_setup = stands.is_setup; fit = stands.fit; in_hour = stands.in_hour }) refl (record { some = is.some; all_left = is.lots })).1.stands

  in-its-part : (order : Resting) → order.number ≡ item.number → IsIn order (flat_map (λ line. line) (book_of events hour)) → IsOfPart (book_of events hour) item.part order
  unfolding book_of
  in-its-part order numbered i =
      let at = from_book (λ p s. resting_line events (contract_of hour p) s) order i in
      let there = from_resting events (contract_of hour at.0) at.1 order at.3 in
      let in_hour : there.order.name.hour ≡ hour =
      hour_of stands.setup stands.history stands.fit (contract_of hour at.0) there.order (placed-in graph hour events stands there.order there.is_placed) there.of_contract in
      let named : there.order.name ≡ name_of hour item =
      same_names there.order.name (name_of hour item) in_hour (sym (ap (λ (r : Resting). r.number) there.is) ∙ numbered) in
      let part : part_number at.0 ≡ item.part =
      ap part_number (sym (ap (λ (c : Contract). c.part) there.of_contract)) ∙ is.part there.order there.is_placed named in
      let side : at.1 ≡ order.side = sym (ap (λ (r : Resting). r.side) there.is ∙ there.on_side) in
      subst (λ n. IsIn order (line_of (book_of events hour) n order.side)) part
      (subst (λ s. IsIn order (line_of (book_of events hour) (part_number at.0) s)) side
      (subst (IsIn order) (sym (line_of-book events hour at.0 at.1 at.2)) at.3))

  -- an order that the book has under its number rests in its part
  pub of-part : IfSome (order_of (book_of events hour) item.number) (λ order. IsOfPart (book_of events hour) item.part order)
  of-part = go (order_of (book_of events hour) item.number) refl
    where
      go : (o : Option Resting) → order_of (book_of events hour) item.number ≡ o → IfSome o (λ order. IsOfPart (book_of events hour) item.part order)
      go None none = tt
      go (Some order) found =
          let from = from_find (has_number item.number) order (flat_map (λ line. line) (book_of events hour)) found in
          in-its-part order (eqb-true order.number item.number from.1) from.0

  -- it stays so after an event that enters nothing and leaves what is left of it
  pub stays-open : (e : Event) → placed_by e ≡ None → left (and_then events e) (name_of hour item) ≡ left events (name_of hour item) → IsStillOpen (and_then events e) hour item
  stays-open e none same = record {
    some = is.some;
    lots = is.lots ∙ sym same;
    part = λ order there. is.part order (subst (IsIn order) (picked-same placed_by events e none) there);
  }

-- ---- all of them

-- a gate leaves them open
pub gated-can : (board : BoardState) (items : List StillOpen) (asked : Phase) → CanEnd board items → IsHourOf board.grid board.hour (and_then board.events (event.Gated board.hour asked))
    → CanEnd (with_more board (event.Gated board.hour asked)) items
gated-can board items asked can stands = record {
  stands = stands;
  quiet = still-quiet board.grid board.hour board.events (event.Gated board.hour asked) stands (λ c. tt) (λ quarter arc. refl) can.quiet;
  each = λ item i. stays-open board.grid board.hour board.events can.stands item (can.each item i) (event.Gated board.hour asked) refl
      (left-untouched board.events (event.Gated board.hour asked) (name_of board.hour item) refl refl refl);
  different = can.different;
}

-- the withdrawal of the first leaves the others
pub next-can : (board : BoardState) (item : StillOpen) (items : List StillOpen) → CanEnd board (item ∷ items)
    → CanEnd (with_more board (withdrawal board.hour item)) items
next-can board item items can =
    let first = can.each item (inl refl) in
    let gone : Event = withdrawal board.hour item in
    let stands = can-be-next board.grid board.hour board.events can.stands item first in
    record {
      stands = stands;
      quiet = still-quiet board.grid board.hour board.events gone stands (λ c. tt) (λ quarter arc. refl) can.quiet;
      each = λ other i.
          let apart : name_of board.hour item ≢ name_of board.hour other =
          λ same. can.different.0 (subst (λ n. IsIn n (map (name_of board.hour) items)) (sym same) (IsIn-map (name_of board.hour) other items i)) in
          stays-open board.grid board.hour board.events can.stands other (can.each other (inr i)) gone refl
          (left-untouched board.events gone (name_of board.hour other) refl refl
          (ap (λ b. if b then item.lots else 0) (other_name (name_of board.hour item) (name_of board.hour other) apart)));
      different = can.different.1;
    }

-- the first that are left of them
pub first-can : (board : BoardState) (items : List StillOpen) (place : ℕ) (item : StillOpen) → place < length items → CanEnd board (drop place items)
    → CanEnd board (get_or items place item ∷ drop (place + 1) items)
first-can board items place item low can =
    subst (λ n. CanEnd board (get_or items place item ∷ drop n items)) (sym (add-one place))
    (subst (CanEnd board) (drop-cons items place item low) can)

-- one more of them is withdrawn
pub one-more : (old now new : HourState) (items : List StillOpen) (place : ℕ) (item : StillOpen) → place < length items
    → now ≡ after_events old (map (withdrawal old.board.hour) (take place items))
    → new ≡ after_event now (withdrawal_of now (get_or items place item).number (get_or items place item).lots) None
    → new ≡ after_events old (map (withdrawal old.board.hour) (take (place + 1) items))
one-more old now new items place item low now_is new_is =
    new_is ∙ ap (λ (h : HourState). after_event h (withdrawal_of h (get_or items place item).number (get_or items place item).lots) None) now_is
    ∙ ap (λ es. with_board old (with_hand (with_events old.board es) None)) (
    append_assoc old.board.events (map (withdrawal old.board.hour) (take place items)) (withdrawal old.board.hour (get_or items place item) ∷ [])
    ∙ ap (λ (es : List Event). old.board.events ++ es) (sym (ap (map (withdrawal old.board.hour)) (take_more items place item low)
    ∙ map_push (withdrawal old.board.hour) (take place items) (get_or items place item)))
    )

-- and the others can be
pub still-can : (now new : HourState) (items : List StillOpen) (place : ℕ) (item : StillOpen) → place < length items → CanEnd now.board (drop place items)
    → new ≡ after_event now (withdrawal_of now (get_or items place item).number (get_or items place item).lots) None
    → CanEnd new.board (drop (place + 1) items)
still-can now new items place item low can new_is =
    subst (λ (h : HourState). CanEnd h.board (drop (place + 1) items)) (sym new_is)
    (next-can now.board (get_or items place item) (drop (place + 1) items) (first-can now.board items place item low can))
