-- What is reduced has so many lots less in the book of its hour.
use Rattle.std.proofs.Common.{◌≡◌, ◌∙◌, ℕ, ◌<◌, true, List, Some, None, eqb-true, refl, sym, ap, subst}
use Rattle.order_kinds.specs.declared.order.Kind.TheVariants as kind
use Rattle.order_kinds.specs.declared.order.Order.{Order}
use Rattle.order_kinds.specs.declared.order.OrderName.{OrderName}
use Rattle.zone_graph.specs.Graph.{Graph}
use Rattle.contract_book.specs.Book.{order_of, reduced}
use Rattle.market_model.specs.declared.event.Event.{Event}
use Rattle.market_model.specs.declared.event.Event.TheVariants as event
use Rattle.market_model.specs.History.{and_then}
use Rattle.market_model.specs.Orders.{filled, is_open, left, standing}
use Rattle.market_model.specs.WellFormed.{ReductionFits}
use Rattle.laws_of_books.specs.BookOf.{book_of, ice_of, resting_of}
use Rattle.laws_of_books.proofs.TakenOff.{book-reduced, order_of-open}
use Rattle.laws_of_books.proofs.BlocksElsewhere as blocks
use Rattle.laws_of_hours.proofs.OtherEvents.{others}
use Rattle.laws_of_hours.specs.NextEvents.{IsNext}
use Rattle.laws_of_hours.specs.OrderEvents.{IsReduced, ReductionsAreMade}
use Rattle.laws_of_hours.proofs.NextEvents.{after, before, blocks-are, book-is, flows-from, flows-to, next}
use Rattle.laws_of_hours.proofs.Numbers.{same-next}
use Rattle.laws_of_hours.proofs.TakenOut.{few-quiet}

-- a limit order hides nothing
plain : (order : Order) (filled : ℕ) → order.kind ≡ kind.Limit → ice_of order filled ≡ None
plain order filled is = ap (λ k. ice_of (record order { kind = k }) filled) is

module _ (graph : Graph) (events : List Event) (name : OrderName) (by : ℕ) (own : IsNext graph name.hour events (event.Reduced name by)) where
  abbrev reduction : Event
  reduction = event.Reduced name by

  is-reduced : IsReduced graph name.hour events (and_then events reduction) name.number by
  is-reduced =
      let hour : ℕ = name.hour in
      let old = before graph hour events reduction own in
      let new = after graph hour events reduction own in
      let fits : ReductionFits own.history name by = own.fits in
      let book = book-is graph hour events old in
      let open_too : is_open own.history fits.order.name ≡ true = subst (λ n. is_open own.history n ≡ true) (sym fits.order_open.is_named) fits.order_open.is_left in
      record {
        can = record {
          order = resting_of (standing own.history fits.order);
          found = ap (λ b. order_of b name.number) book
              ∙ subst (λ (n : OrderName). order_of (book_of own.history n.hour) n.number ≡ Some (resting_of (standing own.history fits.order))) fits.order_open.is_named
              (order_of-open own.setup own.history own.fit fits.order fits.order_open.is_placed open_too);
          plain = plain fits.order.order (filled own.history fits.order.name) fits.is_limit;
          some = fits.some;
          less = subst (λ n. by < left own.history n) (sym fits.order_open.is_named) fits.less;
        };
        book = book-is graph hour (and_then events reduction) new ∙ book-reduced own.setup own.history own.fit name by own.fits
            ∙ ap (λ b. reduced b name.number by) (sym book);
        blocks = blocks-are graph hour (and_then events reduction) new
            ∙ blocks.book-elsewhere own.setup own.history own.fit hour reduction own.fits tt ∙ sym (blocks-are graph hour events old);
        flows = λ flows is. flows-from graph hour (and_then events reduction) new flows
            (others own.setup graph own.history reduction hour flows own.fit own.fits (flows-to graph hour events old flows is) tt);
        few = few-quiet hour events reduction refl;
        same_next = same-next hour events reduction refl;
      }

pub is_reduced : ReductionsAreMade
is_reduced graph hour events name by stands =
    let reduction : Event = event.Reduced name by in
    let own = next graph hour events reduction stands in
    let in_hour : name.hour ≡ hour = eqb-true name.hour hour own.touched in
    subst (λ h. IsReduced graph h events (and_then events reduction) name.number by) in_hour
    (is-reduced graph events name by (subst (λ h. IsNext graph h events reduction) (sym in_hour) own))
