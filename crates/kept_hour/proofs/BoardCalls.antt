-- What the calls of a board ask and answer, as the fields of a kept hour have it.
use Rattle.std.proofs.Common.{◌≡◌, ◌∙◌, ℕ, ◌+◌, ◌<◌, true, List, [], ◌∷◌, ◌++◌, length, length-append, get_or, Option, reverse, IsSome, refl, sym, ap, ap₂, subst, arith}
use Rattle.std.specs.List.{list_any}
use Rattle.std.specs.Option.{option_map}
use Rattle.order_kinds.specs.declared.contract.Contract.{Contract}
use Rattle.order_kinds.specs.declared.side.Side.{Side}
use Rattle.order_kinds.specs.Contract.{contract_at}
use Rattle.zone_graph.specs.Graph.{Graph}
use Rattle.zone_graph.proofs.Finding.{find-IsIn}
use Rattle.contract_book.specs.declared.resting.Resting.{Resting}
use Rattle.contract_book.specs.Book.{after_in, has_number, line_number, line_of, order_of}
use Rattle.contract_book.proofs.BookShapes.{has-number}
use Rattle.market_model.specs.declared.event.Event.{Event}
use Rattle.market_model.specs.declared.event.Event.TheVariants as event
use Rattle.market_model.specs.declared.event.Leg.{Leg}
use Rattle.market_model.specs.Board.{CanBeMade, Rests, RestsIn, resting_line, shown_behind}
use Rattle.laws_of_books.proofs.Updates.{from_stands}
use Rattle.laws_of_hours.proofs.Entries.{in-orders}
use Rattle.laws_of_hours.proofs.OrderlyBooks.{orders_in}
use Rattle.hour_store.specs.declared.change.Change.{Change}
use Rattle.hour_store.specs.Contents.{Contents}
use Rattle.hour_store.specs.Store.{StillLeadsBack, Store}
use Rattle.hour_store.specs.TakenBack.{LeadsBack}
use Rattle.kept_hour.specs.Kept.{IsKept, hour_of}
use Rattle.kept_hour.specs.Legs.{CanMakeIn, IsMadeIn, NotesLeg}
use Rattle.kept_hour.specs.Showing.{shown_record}
use Rattle.kept_hour.specs.State.{HourState}
use Rattle.kept_hour.proofs.Keeping.{own}
use Rattle.kept_hour.proofs.Making.{can-make, made-next}
use Rattle.kept_hour.proofs.Shows.{any-shows, behind-shows, line-is}
use Rattle.kept_hour.proofs.Wrapped.{kept-by, to-own}

-- a store with the same contents and changes leads back to the same
pub same-leads : (old new : Store) → new.contents ≡ old.contents → new.changes ≡ old.changes → StillLeadsBack old new
same-leads old new contents changes target leads =
    subst (λ rs. LeadsBack (reverse rs) new.contents target) (sym changes)
    (subst (λ c. LeadsBack (reverse old.changes) c target) (sym contents) leads)

-- what is said of its contents and changes is said of those
pub from-reserved : (P : Contents → List Change → Type 0) (old new : Store) → new.contents ≡ old.contents → new.changes ≡ old.changes
    → P new.contents new.changes → P old.contents old.changes
from-reserved P old new contents changes holds = subst (λ cs. P old.contents cs) changes (subst (λ c. P c new.changes) contents holds)

pub leads-through : (a b c : Store) → StillLeadsBack a b → StillLeadsBack b c → StillLeadsBack a c
leads-through a b c one two target leads = two target (one target leads)

-- an order that stands in a line of a book is found
found-some : (book : List (List Resting)) (place number : ℕ) → list_any (has_number number) (get_or book place []) ≡ true → IsSome (order_of book number)
found-some book place number stands =
    let at = from_stands number (get_or book place []) stands in
    let found = find-IsIn (has_number number) (orders_in book) at.0 (in-orders book place at.0 at.1) (has-number at.0 number at.2) in
    subst IsSome (sym found.1) refl

module _ (grid : Graph) (number : ℕ) (events : List Event) (settled : ℕ) (hand : Option ℕ) (numbers settled_numbers : ℕ) (store : Store)
    (kept : IsKept (own grid number events settled hand) settled numbers settled_numbers store)
    (seen : HourState) (view_is : own grid number events settled hand ≡ seen) where
  abbrev mine : HourState
  mine = own grid number events settled hand

  -- ---- what shows

  -- an order that rests stands in the book's line
  pub stands-line : (book : List (List Resting)) → book ≡ store.contents.book → (rested part : ℕ) (side : Side) → RestsIn seen.board part side rested
      → list_any (has_number rested) (line_of book part side) ≡ true
  stands-line book is rested part side rests =
      let there = to-own grid number events settled hand numbers settled_numbers store kept seen view_is (λ h. RestsIn h.board part side rested) rests in
      ap (list_any (has_number rested)) (line-is mine.board book (is ∙ kept.keeps.contents.book) part side there.0)
      ∙ any-shows rested (resting_line mine.board part side) ∙ there.1

  pub rests-found : (book : List (List Resting)) → book ≡ store.contents.book → (rested : ℕ) → Rests seen.board rested → IsSome (order_of book rested)
  rests-found book is rested rests = found-some book (line_number rests.0 rests.1) rested (stands-line book is rested rests.0 rests.1 rests.2)

  pub behind-line : (book : List (List Resting)) → book ≡ store.contents.book → (rested part : ℕ) (side : Side) → RestsIn seen.board part side rested
      → option_map shown_record (after_in rested (line_of book part side)) ≡ shown_behind rested (resting_line seen.board part side)
  behind-line book is rested part side rests =
      let there = to-own grid number events settled hand numbers settled_numbers store kept seen view_is (λ h. RestsIn h.board part side rested) rests in
      ap (λ l. option_map shown_record (after_in rested l)) (line-is mine.board book (is ∙ kept.keeps.contents.book) part side there.0)
      ∙ behind-shows rested (resting_line mine.board part side)
      ∙ ap (λ (h : HourState). shown_behind rested (resting_line h.board part side)) view_is

  -- ---- legs

  module _ (part : ℕ) (leg : Leg) (low : part < seen.board.parts) (can : CanBeMade seen.board part leg)
      (reserved : Store) (same_contents : reserved.contents ≡ store.contents) (same_changes : reserved.changes ≡ store.changes)
      (after : List Event) (contract : Contract) (copy : Leg) (after_is : after ≡ events ++ event.Leg contract copy ∷ [])
      (contract_is : contract ≡ contract_at number part) (copy_is : copy ≡ leg) (moment : ℕ) (moment_is : moment ≡ length after) where
    low_own : part < 7
    low_own = to-own grid number events settled hand numbers settled_numbers store kept seen view_is (λ h. part < h.board.parts) low

    can_own : CanBeMade mine.board part leg
    can_own = to-own grid number events settled hand numbers settled_numbers store kept seen view_is (λ h. CanBeMade h.board part leg) can

    moment-own : moment ≡ length events + 1
    moment-own =
        let long = length-append events (event.Leg contract copy ∷ []) in
        let is = ap length after_is in
        omega (arith, moment_is, is, long)

    pub can-make-in : CanMakeIn hand part leg moment reserved.contents
    can-make-in =
        subst (λ n. CanMakeIn hand part leg n reserved.contents) (sym moment-own)
        (subst (CanMakeIn hand part leg (length events + 1)) (sym same_contents)
        (can-make mine numbers settled_numbers store kept.keeps part low_own leg can_own))

    pub made-kept : (new : Store) → IsMadeIn hand part leg moment reserved.contents new.contents → StillLeadsBack reserved new
        → NotesLeg hand part leg moment reserved.contents.book reserved.changes new.changes
        → IsKept (hour_of grid number after settled hand) settled numbers settled_numbers new
    made-kept new made back noted =
        kept-by grid number events settled hand numbers settled_numbers store kept seen view_is
        (event.Leg (contract_at number part) leg) hand numbers new after
        (after_is ∙ ap₂ (λ k l. events ++ event.Leg k l ∷ []) contract_is copy_is)
        (made-next mine numbers settled_numbers store kept.keeps part low_own leg can_own new
        (subst (λ n. IsMadeIn hand part leg n store.contents new.contents) moment-own
        (subst (λ c. IsMadeIn hand part leg moment c new.contents) same_contents made))
        (leads-through store reserved new (same-leads store reserved same_contents same_changes) back)
        (subst (λ n. NotesLeg hand part leg n store.contents.book store.changes new.changes) moment-own
        (from-reserved (λ c cs. NotesLeg hand part leg moment c.book cs new.changes) store reserved same_contents same_changes noted)))
