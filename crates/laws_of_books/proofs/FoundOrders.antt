-- What the book of an hour has for a number, and what it depends on.
use Rattle.std.proofs.Common.{◌≡◌, ◌∙◌, inl, inr, ℕ, ◌*◌, ◌&&◌, true, List, [], ◌∷◌, Option, Some, None, flat_map, map, option_map, replicate, refl, sym, ap, subst}
use Rattle.std.proofs.lemmas.Bool.{and_from, true≢false}
use Rattle.order_kinds.specs.declared.order.OrderName.{OrderName}
use Rattle.order_kinds.specs.Same.{same_name}
use Rattle.zone_graph.proofs.Finding.{find-none}
use Rattle.zone_graph.proofs.Membership.{from_filter}
use Rattle.contract_book.specs.declared.resting.Resting.{Resting}
use Rattle.contract_book.specs.Book.{has_number, order_of}
use Rattle.contract_book.proofs.BookShapes.{find-no, has_not-number}
use Rattle.market_model.specs.declared.event.Event.{Event}
use Rattle.market_model.specs.declared.setup.Setup.{Setup}
use Rattle.market_model.specs.History.{of_hour, touches}
use Rattle.market_model.specs.Lines.{line}
use Rattle.market_model.specs.Orders.{Placed, is_open, open_order, placed, standing}
use Rattle.market_model.specs.Taking.{standing_order}
use Rattle.market_model.specs.WellFormed.{FitAfter}
use Rattle.laws_of_market.proofs.Legs.{open_order-is}
use Rattle.laws_of_market.proofs.Tests.{same_name-refl}
use Rattle.laws_of_market.proofs.LocalLines.{line-agree}
use Rattle.laws_of_market.proofs.NamedByHour.{history-named}
use Rattle.laws_of_market.proofs.Restrict.{filter-filter}
use Rattle.laws_of_market.proofs.LocalStates.{Agree}
use Rattle.laws_of_books.specs.BookOf.{book_by, book_of, contract_of, resting_line, resting_of}
use Rattle.laws_of_books.proofs.ChangedOrders.{hour_of}
use Rattle.laws_of_books.proofs.LineOrders.{from_resting, same_names}
use Rattle.laws_of_books.proofs.PartLines.{book_of-same, from_book}
use Rattle.laws_of_books.proofs.TakenOff.{order_of-open}

pub book-begins : (hour : ℕ) → book_of [] hour ≡ replicate (2 * 7) []
unfolding book_of line
book-begins hour = refl

module _ (setup : Setup) (events : List Event) (fit : FitAfter setup [] events) where
  -- where no order of a name is open none is found
  none-found : (name : OrderName) → open_order events name ≡ None → order_of (book_of events name.hour) name.number ≡ None
  unfolding book_of
  none-found name none =
      find-no (has_number name.number) (flat_map (λ l. l) (book_by (λ p s. resting_line events (contract_of name.hour p) s))) (λ other i.
      let at = from_book (λ p s. resting_line events (contract_of name.hour p) s) other i in
      let there = from_resting events (contract_of name.hour at.0) at.1 other at.3 in
      has_not-number other name.number (λ same.
      let hours : there.order.name.hour ≡ name.hour =
      hour_of setup events fit (contract_of name.hour at.0) there.order there.is_placed there.of_contract in
      let is : there.order.name ≡ name = same_names there.order.name name hours (sym (ap (λ (r : Resting). r.number) there.is) ∙ same) in
      let named : same_name there.order.name name ≡ true = subst (λ n. same_name there.order.name n ≡ true) is (same_name-refl there.order.name) in
      true≢false (sym (and_from (same_name there.order.name name) (is_open events there.order.name) named there.is_left)
      ∙ find-none (λ order. same_name order.name name && is_open events order.name) (placed events) none there.order there.is_placed)))

  pub order-found : (name : OrderName) → order_of (book_of events name.hour) name.number ≡ option_map resting_of (standing_order events name)
  order-found name = go (open_order events name) refl
    where
      go : (o : Option Placed) → open_order events name ≡ o
          → order_of (book_of events name.hour) name.number ≡ option_map resting_of (option_map (standing events) o)
      go None is = none-found name is
      go (Some order) is =
          let found = open_order-is events name order is in
          subst (λ (n : OrderName). order_of (book_of events n.hour) n.number ≡ Some (resting_of (standing events order))) found.is_named
          (order_of-open setup events fit order found.is_open.is_placed found.is_open.is_left)

  -- the events of an hour agree with all events on it
  hour-agrees : (hour : ℕ) → Agree (hour ∷ []) (of_hour hour events) events
  hour-agrees hour = record {
    named_a = λ e i. history-named setup events fit e (from_filter (touches hour) e events i).0;
    named_b = history-named setup events fit;
    same = λ other i. elim i [
      | inl is ↦ subst (λ h. of_hour h (of_hour hour events) ≡ of_hour h events) (sym is) (filter-filter (touches hour) (touches hour) events (λ e j t. t))
      | inr none ↦ absurd none
    ];
  }

  pub hour-book : (hour : ℕ) → book_of (of_hour hour events) hour ≡ book_of events hour
  hour-book hour =
      book_of-same (of_hour hour events) events hour (λ part side known.
      ap (map resting_of) (line-agree (hour ∷ []) (of_hour hour events) events (hour-agrees hour) (contract_of hour part) side (inl refl)))
