-- The order in hand comes to rest, as the fields of a kept hour have it.
use Rattle.std.proofs.Common.{◌≡◌, ◌≢◌, ℕ, ◌<◌, ◌≤◌, List, length, Option, Some, None, sym, subst}
use Rattle.zone_graph.specs.Graph.{Graph}
use Rattle.contract_book.specs.declared.resting.Resting.{Resting}
use Rattle.contract_book.specs.Book.{order_count, order_of, parts_of, with_order}
use Rattle.contract_book.specs.Resting.{IsSound}
use Rattle.market_model.specs.declared.event.Event.{Event}
use Rattle.market_model.specs.Orders.{open_names}
use Rattle.market_model.specs.Refusals.{desk_room}
use Rattle.laws_of_books.specs.BookOf.{book_of}
use Rattle.hour_store.specs.Contents.{Contents, IsOfPart}
use Rattle.hour_store.specs.Store.{StillLeadsBack, Store}
use Rattle.kept_hour.specs.Kept.{IsKept, hour_of}
use Rattle.kept_hour.specs.State.{HourState}
use Rattle.kept_hour.proofs.BoardCalls.{leads-through, same-leads}
use Rattle.kept_hour.proofs.Hands.{NotesRested, hand-absent, hand-fits, hand-part, hand-sound, rested-keeps}
use Rattle.kept_hour.proofs.Keeping.{own}
use Rattle.kept_hour.proofs.Wrapped.{to-own}

-- an order can come to rest in a book
pub record CanRest (part : ℕ) (order : Resting) (book : List (List Resting)) : Type 0 where
  pub part_there : part < parts_of book
  pub absent : order_of book order.number ≡ None
  pub sound : IsSound order
  pub place : order_count book ≢ 4096

module _ (grid : Graph) (number : ℕ) (events : List Event) (settled : ℕ) (hand : Option ℕ) (numbers settled_numbers : ℕ) (store : Store)
    (kept : IsKept (own grid number events settled hand) settled numbers settled_numbers store)
    (seen : HourState) (view_is : own grid number events settled hand ≡ seen)
    (part : ℕ) (order : Resting) (held : seen.board.hand ≡ Some order.number) (low : part < 7)
    (of_part : IsOfPart (book_of seen.board.events seen.board.hour) part order)
    (few : length (open_names seen.board.events seen.board.hour) ≤ desk_room)
    (reserved : Store) (same_contents : reserved.contents ≡ store.contents) (same_changes : reserved.changes ≡ store.changes) where
  abbrev mine : HourState
  mine = own grid number events settled hand

  held_own : hand ≡ Some order.number
  held_own = to-own grid number events settled hand numbers settled_numbers store kept seen view_is (λ h. h.board.hand ≡ Some order.number) held

  of_part_own : IsOfPart (book_of events number) part order
  of_part_own = to-own grid number events settled hand numbers settled_numbers store kept seen view_is (λ h. IsOfPart (book_of h.board.events h.board.hour) part order) of_part

  few_own : length (open_names events number) ≤ desk_room
  few_own = to-own grid number events settled hand numbers settled_numbers store kept seen view_is (λ h. length (open_names h.board.events h.board.hour) ≤ desk_room) few

  pub can-rest : CanRest part order reserved.contents.book
  can-rest = subst (λ (c : Contents). CanRest part order c.book) (sym same_contents) (record {
    part_there = hand-part mine numbers settled_numbers store kept.keeps part order held_own of_part_own few_own low;
    absent = hand-absent mine numbers settled_numbers store kept.keeps part order held_own of_part_own few_own;
    sound = hand-sound mine numbers settled_numbers store kept.keeps part order held_own of_part_own few_own;
    place = hand-fits mine numbers settled_numbers store kept.keeps part order held_own of_part_own few_own;
  })

  pub rested-kept : (new : Store) → new.contents ≡ record reserved.contents { book = with_order reserved.contents.book part order } → StillLeadsBack reserved new
      → NotesRested part order reserved.changes new.changes → IsKept (hour_of grid number events settled None) settled numbers settled_numbers new
  rested-kept new is back noted = record {
    first_part = kept.first_part;
    keeps = rested-keeps mine numbers settled_numbers store kept.keeps part order held_own of_part_own few_own new
        (subst (λ (c : Contents). new.contents ≡ record c { book = with_order c.book part order }) same_contents is)
        (leads-through store reserved new (same-leads store reserved same_contents same_changes) back)
        low (subst (λ cs. NotesRested part order cs new.changes) same_changes noted);
  }
