-- A leg of two blocks is made in an hour of its period.
use Rattle.std.proofs.Common.{◌≡◌, ◌∙◌, inl, ℕ, false, List, [], ◌∷◌, refl, sym, ap, subst}
use Rattle.order_kinds.specs.declared.order.OrderName.{OrderName}
use Rattle.zone_graph.specs.Graph.{Graph}
use Rattle.block_book.specs.Book.{without}
use Rattle.market_model.specs.declared.event.Event.{Event}
use Rattle.market_model.specs.declared.event.Event.TheVariants as event
use Rattle.market_model.specs.declared.event.Leg.{Leg}
use Rattle.market_model.specs.Board.{IsHourOf}
use Rattle.market_model.specs.History.{and_then}
use Rattle.market_model.specs.Orders.{is_open}
use Rattle.laws_of_market.proofs.LocalStates.{is_open-agree}
use Rattle.laws_of_books.proofs.Elsewhere as books
use Rattle.laws_of_books.specs.BlocksOf.{blocks_of}
use Rattle.laws_of_books.specs.LegLaws.{without_both}
use Rattle.laws_of_books.proofs.BlocksBesideLegs as beside
use Rattle.laws_of_books.proofs.BlocksElsewhere as blocks
use Rattle.laws_of_hours.specs.Standing.{Stands}
use Rattle.laws_of_hours.proofs.Callable as callable
use Rattle.laws_of_hours.proofs.Ranges as ranges
use Rattle.laws_of_hours.specs.BlockLegEvents.{BlockLegsAreMade, ClosedBlocksAreGone, IsCarriedThrough}
use Rattle.laws_of_hours.specs.NextEvents.{IsNext}
use Rattle.laws_of_hours.proofs.NextEvents.{after, agrees, before, blocks-are, book-is, flows-to, next}
use Rattle.laws_of_hours.proofs.Numbers.{same-next}
use Rattle.laws_of_hours.proofs.TakenOut.{few-quiet}

module _ (graph : Graph) (hour : ℕ) (events : List Event) (first last : ℕ) (leg : Leg) (own : IsNext graph hour events (event.BlockLeg first last leg)) where
  abbrev trade : Event
  trade = event.BlockLeg first last leg

  abbrev old : IsHourOf graph hour events
  old = before graph hour events trade own

  abbrev new : IsHourOf graph hour (and_then events trade)
  new = after graph hour events trade own

  others : hour ≡ first → without_both (blocks_of (and_then events trade) hour) leg.taker.number leg.maker.number
      ≡ without_both (blocks_of events hour) leg.taker.number leg.maker.number
  others is =
      ap (λ b. without_both b leg.taker.number leg.maker.number) (blocks-are graph hour (and_then events trade) new)
      ∙ ap (λ h. without_both (blocks_of (and_then own.history trade) h) leg.taker.number leg.maker.number) is
      ∙ beside.others_stay own.setup own.history first last leg own.fit own.fits
      ∙ ap (λ h. without_both (blocks_of own.history h) leg.taker.number leg.maker.number) (sym is)
      ∙ ap (λ b. without_both b leg.taker.number leg.maker.number) (sym (blocks-are graph hour events old))

  carried-through : IsCarriedThrough graph hour events (and_then events trade) first leg
  carried-through = record {
    book = book-is graph hour (and_then events trade) new ∙ books.book-elsewhere own.setup own.history own.fit hour trade own.fits tt
        ∙ sym (book-is graph hour events old);
    later = λ apart. blocks-are graph hour (and_then events trade) new
        ∙ blocks.book-elsewhere own.setup own.history own.fit hour trade own.fits (λ same. apart (sym same)) ∙ sym (blocks-are graph hour events old);
    others = others;
    can_carry = λ set flows is of_hour.
        callable.block_legs own.setup own.history first last leg set hour flows own.fit own.fits
        (subst (λ g. Stands g own.history hour flows) (sym own.over_grid) (flows-to graph hour events old flows is)) own.touched of_hour;
    flows = λ set one other is of_hour carried. ranges.block_legs graph events first last leg set hour one other is own.touched of_hour carried;
    few = few-quiet hour events trade refl;
    same_next = same-next hour events trade refl;
  }

pub carried : BlockLegsAreMade
carried graph hour events first last leg stands =
    carried-through graph hour events first last leg (next graph hour events (event.BlockLeg first last leg) stands)

pub closed_gone : ClosedBlocksAreGone
closed_gone graph hour events number stands closed =
    let name : OrderName = record { hour = hour; number = number } in
    let are = blocks-are graph hour events stands in
    let closed_too : is_open stands.history name ≡ false = sym (is_open-agree (hour ∷ []) events stands.history (agrees graph hour events stands) name (inl refl)) ∙ closed in
    ap (λ b. without b number) are ∙ beside.closed_gone stands.setup stands.history name stands.fit closed_too ∙ sym are
