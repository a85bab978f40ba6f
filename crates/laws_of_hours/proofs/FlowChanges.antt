-- Events of arcs, borders and the phase leave the books, and fit the flows.
use Rattle.std.proofs.Common.{◌≡◌, ◌∙◌, ℕ, ◌<◌, true, false, List, refl, sym, subst}
use Rattle.std.proofs.lemmas.Bool.{true≢false}
use Rattle.zone_graph.specs.Graph.{border_count}
use Rattle.market_model.specs.declared.event.Event.{Event}
use Rattle.market_model.specs.declared.event.Event.TheVariants as event
use Rattle.market_model.specs.History.{and_then, enters, enters_in}
use Rattle.market_model.specs.WellFormed.{BorderFits}
use Rattle.laws_of_books.specs.BookLaws as books
use Rattle.laws_of_books.proofs.Elsewhere.{book-elsewhere}
use Rattle.laws_of_books.specs.BlockLaws as block_books
use Rattle.laws_of_books.proofs.BlocksElsewhere as blocks
use Rattle.laws_of_hours.specs.Standing.{Stands}
use Rattle.laws_of_hours.proofs.Callable.{grants, offers}
use Rattle.laws_of_hours.specs.FlowEvents.{FlowEventsLeaveTheBooks, GrantsFitTheFlows, HaltsFitTheFlows, OffersFitTheFlows, ResumptionsFitTheFlows, changes_flows}
use Rattle.laws_of_hours.proofs.NextEvents.{after, before, blocks-are, book-is, flows-to, next}
use Rattle.laws_of_hours.proofs.Numbers.{same-next}
use Rattle.laws_of_hours.proofs.TakenOut.{few-quiet}

-- what such an event says of other things: nothing
record SaysNothing (history : List Event) (hour : ℕ) (e : Event) : Type 0 where
  orders : books.IsElsewhere history hour e
  blocks_too : block_books.IsElsewhere history hour e
  quiet : enters e ≡ false
  no_name : enters_in hour e ≡ false

says_nothing : (history : List Event) (hour : ℕ) (e : Event) → changes_flows e ≡ true → SaysNothing history hour e
says_nothing history hour (event.Granted arc first last lots) is = record { orders = tt; blocks_too = tt; quiet = refl; no_name = refl }
says_nothing history hour (event.Offered arc first last lots) is = record { orders = tt; blocks_too = tt; quiet = refl; no_name = refl }
says_nothing history hour (event.Halted border first last) is = record { orders = tt; blocks_too = tt; quiet = refl; no_name = refl }
says_nothing history hour (event.Resumed border first last) is = record { orders = tt; blocks_too = tt; quiet = refl; no_name = refl }
says_nothing history hour (event.Gated gated phase) is = record { orders = tt; blocks_too = tt; quiet = refl; no_name = refl }
says_nothing history hour _ is = absurd (true≢false (sym is))

pub leaves_books : FlowEventsLeaveTheBooks
leaves_books graph hour events e stands is =
    let own = next graph hour events e stands in
    let old = before graph hour events e own in
    let nothing = says_nothing own.history hour e is in
    record {
      book = book-is graph hour (and_then events e) (after graph hour events e own)
          ∙ book-elsewhere own.setup own.history own.fit hour e own.fits nothing.orders ∙ sym (book-is graph hour events old);
      blocks = blocks-are graph hour (and_then events e) (after graph hour events e own)
          ∙ blocks.book-elsewhere own.setup own.history own.fit hour e own.fits nothing.blocks_too ∙ sym (blocks-are graph hour events old);
      few = few-quiet hour events e nothing.quiet;
      same_next = same-next hour events e nothing.no_name;
    }

pub grants_fit : GrantsFitTheFlows
grants_fit graph hour events arc first last lots flows stands is =
    let e : Event = event.Granted arc first last lots in
    let own = next graph hour events e stands in
    grants own.setup own.history arc first last lots hour flows own.fit own.fits
    (subst (λ g. Stands g own.history hour flows) (sym own.over_grid) (flows-to graph hour events (before graph hour events e own) flows is))

pub offers_fit : OffersFitTheFlows
offers_fit graph hour events arc first last lots flows stands is =
    let e : Event = event.Offered arc first last lots in
    let own = next graph hour events e stands in
    offers own.setup own.history arc first last lots hour flows own.fits
    (subst (λ g. Stands g own.history hour flows) (sym own.over_grid) (flows-to graph hour events (before graph hour events e own) flows is))

pub halts_fit : HaltsFitTheFlows
halts_fit graph hour events border first last stands =
    let own = next graph hour events (event.Halted border first last) stands in
    let fits : BorderFits own.setup border first last = own.fits in
    subst (λ g. border < border_count g) own.over_grid fits.on_border

pub resumptions_fit : ResumptionsFitTheFlows
resumptions_fit graph hour events border first last stands =
    let own = next graph hour events (event.Resumed border first last) stands in
    let fits : BorderFits own.setup border first last = own.fits in
    subst (λ g. border < border_count g) own.over_grid fits.on_border
