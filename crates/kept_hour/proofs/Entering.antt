-- An order enters a kept hour.
use Rattle.std.proofs.Common.{◌≡◌, ◌∙◌, inl, inr, ℕ, ◌+◌, ◌≤◌, List, [], ◌∷◌, length, Some, None, eq-eqb, refl, sym, ap, subst, arith}
use Rattle.order_kinds.specs.declared.order.Order.{Order}
use Rattle.order_kinds.specs.declared.order.OrderName.{OrderName}
use Rattle.zone_graph.proofs.Membership.{IsIn-right}
use Rattle.market_model.specs.declared.event.Event.{Event}
use Rattle.market_model.specs.History.{and_then}
use Rattle.market_model.specs.Orders.{next_name, open_names, placed_by}
use Rattle.market_model.specs.Refusals.{desk_room}
use Rattle.laws_of_market.proofs.Members.{IsIn-filter_map}
use Rattle.laws_of_books.specs.BookOf.{book_of}
use Rattle.laws_of_hours.specs.OrderEvents.{IsInHand, resting_count, without_hand}
use Rattle.laws_of_hours.proofs.Entries.{enters}
use Rattle.laws_of_hours.proofs.Numbers.{count-more, one_if}
use Rattle.hour_store.specs.Store.{Store}
use Rattle.kept_hour.specs.Kept.{Keeps}
use Rattle.kept_hour.specs.State.{CanBeNext, HourState, entry_of, name_in}
use Rattle.kept_hour.proofs.Keeping.{KeepsNext}
use Rattle.kept_hour.proofs.Lists.{all-pass}
use Rattle.kept_hour.proofs.NamedOrders.{named-zone}

-- with no order in hand all open names count
pub free-count : (events : List Event) (hour : ℕ) → resting_count events hour None ≡ length (open_names events hour)
free-count events hour = ap length (all-pass (open_names events hour))

module _ (hour : HourState) (numbers settled_numbers : ℕ) (store : Store) (keeps : Keeps hour numbers settled_numbers store)
    (free : hour.board.hand ≡ None) (caller : ℕ) (order : Order) (next : CanBeNext hour (entry_of hour caller order)) where
  abbrev entry : Event
  entry = entry_of hour caller order

  abbrev name : OrderName
  name = next_name hour.board.events hour.board.hour

  in_hand : IsInHand hour.board.grid hour.board.hour hour.board.events (and_then hour.board.events entry) name
  in_hand = enters hour.board.grid hour.board.hour hour.board.events name caller order next

  pub number-is : numbers + 1 ≡ name.number
  number-is = ap (λ n. n + 1) keeps.numbered

  pub entered-next : KeepsNext hour entry (Some name.number) (numbers + 1) store store
  entered-next = record {
    next = next;
    few = (let few = in_hand.few in
        let before : resting_count hour.board.events hour.board.hour None ≤ desk_room =
        subst (λ h. resting_count hour.board.events hour.board.hour h ≤ desk_room) free keeps.board.few in
        let all = free-count hour.board.events hour.board.hour in omega (arith, few, before, all));
    contents = record {
      book = keeps.contents.book ∙ ap (λ h. without_hand h (book_of hour.board.events hour.board.hour)) free ∙ sym in_hand.book;
      blocks = keeps.contents.blocks ∙ sym in_hand.blocks;
      flows = in_hand.flows store.contents.flows keeps.contents.flows;
    };
    numbered = (let more = count-more hour.board.hour hour.board.events entry in
        let one = ap one_if (eq-eqb hour.board.hour hour.board.hour refl) in
        let now = keeps.numbered in omega (arith, more, one, now));
    in_hand = λ number is.
        let same : name.number ≡ number = cc in (
          record { name = name; caller = caller; order = order },
          IsIn-filter_map placed_by entry (record { name = name; caller = caller; order = order }) (and_then hour.board.events entry)
              (IsIn-right entry hour.board.events (entry ∷ []) (inl refl)) refl,
          ap (name_in hour) same,
        );
    back = λ target leads. leads;
    noted = record {
      orders = λ part side zone low is. inl is;
      held = λ number order is there named.
          let same : name.number ≡ number = cc in
          inr (named-zone hour.board.events entry order there (inl (named ∙ ap (name_in hour) (sym same))));
      flows = λ is. inl is;
    };
  }
