-- A block enters a kept hour.
use Rattle.std.proofs.Common.{◌≡◌, ◌≢◌, ◌∙◌, ℕ, ◌+◌, ◌<◌, List, [], ◌∷◌, ◌++◌, length, length-append, Option, None, eq-eqb, refl, sym, ap, subst, arith}
use Rattle.order_kinds.specs.declared.order.BlockOrder.{BlockOrder}
use Rattle.order_kinds.specs.declared.order.OrderName.{OrderName}
use Rattle.zone_graph.specs.Graph.{Graph}
use Rattle.block_book.specs.declared.block.RestingBlock.{RestingBlock}
use Rattle.block_book.specs.Book.{block_of, with_block}
use Rattle.market_model.specs.declared.event.Event.{Event}
use Rattle.market_model.specs.declared.event.Event.TheVariants as event
use Rattle.market_model.specs.History.{and_then}
use Rattle.market_model.specs.Orders.{next_name, open_names}
use Rattle.market_model.specs.Refusals.{desk_room}
use Rattle.laws_of_books.specs.BlocksOf.{blocks_of, entered_resting_block}
use Rattle.laws_of_hours.specs.Standing.{Stands}
use Rattle.laws_of_hours.specs.BlockEvents.{RestsAsBlock}
use Rattle.laws_of_hours.proofs.BlockEntries.{enters}
use Rattle.laws_of_hours.proofs.Numbers.{count-more, one_if}
use Rattle.hour_store.specs.Changed.{NotesNoFlow, NotesNoOrder}
use Rattle.hour_store.specs.Contents.{Contents}
use Rattle.hour_store.specs.Store.{StillLeadsBack, Store}
use Rattle.kept_hour.specs.Kept.{IsKept, hour_of}
use Rattle.kept_hour.specs.State.{CanBeNext, HourState, block_entry_of}
use Rattle.kept_hour.proofs.BoardCalls.{leads-through, same-leads}
use Rattle.kept_hour.proofs.Changing.{bare-book}
use Rattle.kept_hour.proofs.Entering.{free-count}
use Rattle.kept_hour.proofs.Keeping.{own}
use Rattle.kept_hour.proofs.Noting.{notes-nothing}
use Rattle.kept_hour.proofs.Wrapped.{kept-by, to-own}

module _ (grid : Graph) (number : ℕ) (events : List Event) (settled : ℕ) (hand : Option ℕ) (numbers settled_numbers : ℕ) (store : Store)
    (kept : IsKept (own grid number events settled hand) settled numbers settled_numbers store)
    (seen : HourState) (view_is : own grid number events settled hand ≡ seen) (free : seen.board.hand ≡ None)
    (reserved : Store) (same_contents : reserved.contents ≡ store.contents) (same_changes : reserved.changes ≡ store.changes)
    (caller : ℕ) (order : BlockOrder) (room : length (open_names seen.board.events seen.board.hour) < desk_room)
    (next : CanBeNext seen (block_entry_of seen caller order)) where
  abbrev mine : HourState
  mine = own grid number events settled hand

  here : (P : HourState → Type 0) → P seen → P mine
  here P holds = to-own grid number events settled hand numbers settled_numbers store kept seen view_is P holds

  free_own : hand ≡ None
  free_own = here (λ h. h.board.hand ≡ None) free

  room_own : length (open_names events number) < desk_room
  room_own = here (λ h. length (open_names h.board.events h.board.hour) < desk_room) room

  next_own : CanBeNext mine (block_entry_of mine caller order)
  next_own = here (λ h. CanBeNext h (block_entry_of h caller order)) next

  abbrev name : OrderName
  name = next_name events number

  rests : RestsAsBlock grid number events (and_then events (block_entry_of mine caller order)) name caller order
  rests = enters grid number events name caller order next_own

  number-is : numbers + 1 ≡ name.number
  number-is = ap (λ n. n + 1) kept.keeps.numbered

  blocks_are : (given : ℕ) → given ≡ numbers + 1 → block_of reserved.contents.blocks given ≡ None
  blocks_are given is =
      ap (block_of reserved.contents.blocks) (is ∙ number-is)
      ∙ ap (λ (c : Contents). block_of c.blocks name.number) same_contents ∙ ap (λ b. block_of b name.number) kept.keeps.contents.blocks ∙ rests.free

  pub block-absent : (given : RestingBlock) (hour moment : ℕ) → given ≡ entered_resting_block (record { hour = hour; number = numbers + 1 }) caller order moment
      → block_of reserved.contents.blocks given.number ≡ None
  block-absent given hour moment is = blocks_are given.number (ap (λ (b : RestingBlock). b.number) is)

  pub block-fits : length reserved.contents.blocks ≢ 4096
  block-fits full =
      let fit = rests.fit in
      let low = room_own in
      let same = ap (λ (c : Contents). length c.blocks) same_contents in
      let own_blocks = ap length kept.keeps.contents.blocks in
      omega (arith, full, fit, low, same, own_blocks)

  pub block-kept : (after : List Event) (new : Store) (given : RestingBlock) (moment : ℕ)
      → after ≡ events ++ event.EnteredBlock (record { hour = number; number = numbers + 1 }) caller order ∷ []
      → moment ≡ length after → given ≡ entered_resting_block (record { hour = number; number = numbers + 1 }) caller order moment
      → new.contents ≡ record reserved.contents { blocks = with_block reserved.contents.blocks given } → StillLeadsBack reserved new
      → NotesNoOrder reserved.changes new.changes → NotesNoFlow reserved.changes new.changes
      → IsKept (hour_of grid number after settled hand) settled (numbers + 1) settled_numbers new
  block-kept after new given moment after_is moment_is given_is contents_are back noted no_flow =
      let entry : Event = block_entry_of mine caller order in
      let long = length-append events (entry ∷ []) in
      let as_named : after ≡ events ++ entry ∷ [] =
      after_is ∙ ap (λ n. events ++ event.EnteredBlock (record { hour = number; number = n }) caller order ∷ []) number-is in
      let lengths = ap length as_named in
      let moment_own : moment ≡ length events + 1 = omega (arith, moment_is, lengths, long) in
      let block_is : given ≡ entered_resting_block name caller order (length events + 1) =
      given_is ∙ ap (λ n. entered_resting_block (record { hour = number; number = n }) caller order moment) number-is
      ∙ ap (entered_resting_block name caller order) moment_own in
      let blocks_before = ap (λ (c : Contents). c.blocks) same_contents ∙ kept.keeps.contents.blocks in
      subst (λ h. IsKept (hour_of grid number after settled h) settled (numbers + 1) settled_numbers new) (sym free_own)
      (kept-by grid number events settled hand numbers settled_numbers store kept seen view_is entry None (numbers + 1) new after as_named (record {
        next = next_own;
        few = (let few = rests.few in let low = room_own in let all = free-count (and_then events entry) number in omega (arith, few, low, all));
        contents = record {
          book = ap (λ (c : Contents). c.book) contents_are ∙ ap (λ (c : Contents). c.book) same_contents
              ∙ bare-book mine numbers settled_numbers store kept.keeps free_own ∙ sym rests.book;
          blocks = ap (λ (c : Contents). c.blocks) contents_are ∙ ap (λ b. with_block b given) blocks_before
              ∙ ap (λ b. with_block (blocks_of events number) b) block_is ∙ sym rests.blocks;
          flows = rests.flows new.contents.flows
              (subst (Stands grid events number) (sym (ap (λ (c : Contents). c.flows) contents_are ∙ ap (λ (c : Contents). c.flows) same_contents)) kept.keeps.contents.flows);
        };
        numbered = (let more = count-more number events entry in
            let one = ap one_if (eq-eqb number number refl) in
            let now = kept.keeps.numbered in omega (arith, more, one, now));
        in_hand = λ other holds. absurd (let no : ⊥ = cc in no);
        back = leads-through store reserved new (same-leads store reserved same_contents same_changes) back;
        noted = notes-nothing mine (entry ∷ []) store.changes new.changes (subst (λ cs. NotesNoOrder cs new.changes) same_changes noted)
            (subst (λ cs. NotesNoFlow cs new.changes) same_changes no_flow);
      }))
