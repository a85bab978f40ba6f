-- The order in hand of a kept hour comes to rest, is dropped or is withdrawn.
use Rattle.std.proofs.Common.{◌≡◌, ◌≢◌, ◌∙◌, inl, ℕ, ◌<◌, ◌≤◌, true, false, List, [], ◌∷◌, length, Option, Some, None, refl, sym, ap, subst, arith}
use Rattle.contract_book.specs.declared.resting.Resting.{Resting}
use Rattle.contract_book.specs.Book.{IsBook, order_count, order_of, parts_of, with_order, without}
use Rattle.contract_book.specs.Resting.{IsSound}
use Rattle.market_model.specs.declared.event.Event.{Event}
use Rattle.market_model.specs.declared.event.Event.TheVariants as event
use Rattle.market_model.specs.Orders.{is_open, open_names}
use Rattle.market_model.specs.Refusals.{desk_room}
use Rattle.laws_of_market.proofs.LocalAnswers.{open_names-agree}
use Rattle.laws_of_books.specs.BookOf.{book_of}
use Rattle.laws_of_books.proofs.PartLines.{parts_of-book}
use Rattle.laws_of_books.proofs.WholeBooks.{book-is_book}
use Rattle.laws_of_hours.specs.Standing.{Stands}
use Rattle.laws_of_hours.specs.OrderEvents.{resting_count, without_hand}
use Rattle.laws_of_hours.proofs.NextEvents.{agrees, book-is}
use Rattle.laws_of_hours.proofs.TakenOut.{gone, withdrawn}
use Rattle.laws_of_views.specs.Changes.{zones_of_events}
use Rattle.hour_store.specs.declared.change.Change.{Change}
use Rattle.hour_store.specs.Changed.{NotesNoFlow, NotesOrdersAt, stands_in}
use Rattle.hour_store.specs.Contents.{Contents, IsOfPart}
use Rattle.hour_store.specs.Store.{StillLeadsBack, Store}
use Rattle.hour_store.proofs.Keeps.{parts-without}
use Rattle.hour_store.proofs.UndoneBooks.{absent-without, book-restored, place-left}
use Rattle.kept_hour.specs.Kept.{IsNotedOf, Keeps}
use Rattle.kept_hour.specs.Planned.{planned_of}
use Rattle.kept_hour.specs.State.{CanBeNext, HourState, name_in, with_board, with_hand}
use Rattle.kept_hour.proofs.Entering.{free-count}
use Rattle.kept_hour.proofs.Keeping.{KeepsNext}
use Rattle.kept_hour.proofs.Making.{names-same}
use Rattle.kept_hour.proofs.NamedOrders.{has-entered, stands-where}
use Rattle.kept_hour.proofs.Noting.{noted-bare, notes-nothing}

-- of orders the one that comes to rest is noted, and no flows are
abbrev pub NotesRested : (part : ℕ) → Resting → (old new : List Change) → Type 0
NotesRested part order old new = NotesOrdersAt (λ other side zone. stands_in other side zone part order ≡ true) old new × NotesNoFlow old new

module _ (hour : HourState) (numbers settled_numbers : ℕ) (store : Store) (keeps : Keeps hour numbers settled_numbers store) where
  abbrev book : List (List Resting)
  book = book_of hour.board.events hour.board.hour

  -- the hour with no order in hand, kept by another store
  bare : (new : Store) → resting_count hour.board.events hour.board.hour None ≤ desk_room → new.contents.book ≡ book
      → new.contents.blocks ≡ store.contents.blocks → new.contents.flows ≡ store.contents.flows → StillLeadsBack store new
      → IsNotedOf (with_board hour (with_hand hour.board None)) new.changes → Keeps (with_board hour (with_hand hour.board None)) numbers settled_numbers new
  bare new few book_is blocks_are flows_are back noted = record {
    board = record { stands = keeps.board.stands; few = few };
    contents = record {
      book = book_is;
      blocks = blocks_are ∙ keeps.contents.blocks;
      flows = subst (λ f. Stands hour.board.grid hour.board.events hour.board.hour f) (sym flows_are) keeps.contents.flows;
    };
    numbered = keeps.numbered;
    in_hand = λ number is. absurd (let no : ⊥ = cc in no);
    settled = keeps.settled;
    settled_numbered = keeps.settled_numbered;
    target = keeps.target;
    back = back keeps.target keeps.back;
    target_of = keeps.target_of;
    noted = noted;
  }

  -- ---- it comes to rest

  module _ (part : ℕ) (order : Resting) (held : hour.board.hand ≡ Some order.number) (of_part : IsOfPart book part order)
      (few : length (open_names hour.board.events hour.board.hour) ≤ desk_room) where
    is_book : IsBook book
    is_book =
        let stands = keeps.board.stands in
        let names = open_names-agree (hour.board.hour ∷ []) hour.board.events stands.history (agrees hour.board.grid hour.board.hour hour.board.events stands) hour.board.hour (inl refl) in
        subst IsBook (sym (book-is hour.board.grid hour.board.hour hour.board.events stands))
        (book-is_book stands.setup stands.history stands.fit hour.board.hour (subst (λ xs. length xs ≤ desk_room) names few))

    store-book : store.contents.book ≡ without book order.number
    store-book = keeps.contents.book ∙ ap (λ h. without_hand h book) held

    pub hand-part : part < 7 → part < parts_of store.contents.book
    hand-part low =
        let parts = ap parts_of store-book ∙ parts-without book order.number ∙ parts_of-book hour.board.events hour.board.hour in
        omega (arith, low, parts)

    pub hand-absent : order_of store.contents.book order.number ≡ None
    hand-absent = ap (λ b. order_of b order.number) store-book ∙ absent-without book order.number

    pub hand-sound : IsSound order
    hand-sound = is_book.sound part order.side order of_part

    pub hand-fits : order_count store.contents.book ≢ 4096
    hand-fits full =
        let left = place-left book is_book part order of_part in
        let same = ap order_count store-book in
        omega (arith, full, left, same)

    pub rested-keeps : (new : Store) → new.contents ≡ record store.contents { book = with_order store.contents.book part order } → StillLeadsBack store new
        → part < 7 → NotesRested part order store.changes new.changes → Keeps (with_board hour (with_hand hour.board None)) numbers settled_numbers new
    rested-keeps new is back low noted =
        bare new (let all = free-count hour.board.events hour.board.hour in omega (arith, all, few))
        (ap (λ (c : Contents). c.book) is ∙ ap (λ b. with_order b part order) store-book ∙ book-restored book is_book part order of_part)
        (ap (λ (c : Contents). c.blocks) is) (ap (λ (c : Contents). c.flows) is) back
        (noted-bare hour store.changes new.changes (λ other side zone. stands_in other side zone part order ≡ true) keeps.noted noted.0 noted.1
        (λ other side zone at_low stands.
        let entry = has-entered hour keeps.board.stands part order low of_part in
        stands-where hour keeps.board.stands (zones_of_events hour.settled (planned_of hour)) part order entry
        (keeps.noted.hand order.number entry.own held entry.there entry.named) other side zone stands))

  -- ---- nothing is left of it

  as-noted : IsNotedOf (with_board hour (with_hand hour.board None)) store.changes
  as-noted = noted-bare hour store.changes store.changes (λ part side zone. ⊥) keeps.noted (λ part side zone is. inl is) refl (λ part side zone low no. absurd no)

  pub dropped-keeps : (number : ℕ) → hour.board.hand ≡ Some number → is_open hour.board.events (name_in hour number) ≡ false
      → Keeps (with_board hour (with_hand hour.board None)) numbers settled_numbers store
  dropped-keeps number held closed =
      let is = gone hour.board.grid hour.board.hour hour.board.events number keeps.board.stands closed in
      let few : resting_count hour.board.events hour.board.hour (Some number) ≤ desk_room =
      subst (λ h. resting_count hour.board.events hour.board.hour h ≤ desk_room) held keeps.board.few in
      bare store (let less = is.few in omega (arith, few, less)) (keeps.contents.book ∙ ap (λ h. without_hand h book) held ∙ is.book) refl refl (λ target leads. leads) as-noted

  pub dropped-any : ((number : ℕ) → hour.board.hand ≡ Some number → is_open hour.board.events (name_in hour number) ≡ false)
      → Keeps (with_board hour (with_hand hour.board None)) numbers settled_numbers store
  dropped-any closed = go hour.board.hand refl
    where
      go : (hand : Option ℕ) → hour.board.hand ≡ hand → Keeps (with_board hour (with_hand hour.board None)) numbers settled_numbers store
      go None is =
          bare store (subst (λ h. resting_count hour.board.events hour.board.hour h ≤ desk_room) is keeps.board.few)
          (keeps.contents.book ∙ ap (λ h. without_hand h book) is) refl refl (λ target leads. leads) as-noted
      go (Some number) is = dropped-keeps number is (closed number is)

  -- ---- it is withdrawn

  pub withdrawn-next : (number lots : ℕ) → hour.board.hand ≡ Some number → CanBeNext hour (event.Withdrawn (name_in hour number) lots)
      → KeepsNext hour (event.Withdrawn (name_in hour number) lots) None numbers store store
  withdrawn-next number lots held next =
      let e : Event = event.Withdrawn (name_in hour number) lots in
      let is = withdrawn hour.board.grid hour.board.hour hour.board.events (name_in hour number) lots next in
      let few : resting_count hour.board.events hour.board.hour (Some number) ≤ desk_room =
      subst (λ h. resting_count hour.board.events hour.board.hour h ≤ desk_room) held keeps.board.few in
      record {
        next = next;
        few = (let less = is.few_beside in omega (arith, few, less));
        contents = record {
          book = keeps.contents.book ∙ ap (λ h. without_hand h book) held ∙ sym is.book;
          blocks = keeps.contents.blocks ∙ sym (is.other_blocks (keeps.in_hand number held));
          flows = is.flows store.contents.flows keeps.contents.flows;
        };
        numbered = names-same hour e is.same_next numbers keeps.numbered;
        in_hand = λ other holds. absurd (let no : ⊥ = cc in no);
        back = λ target leads. leads;
        noted = notes-nothing hour (e ∷ []) store.changes store.changes (λ part side zone. refl) refl;
      }
