-- A block enters a kept hour and trades at once.
use Rattle.std.proofs.Common.{◌≡◌, ◌∙◌, ℕ, ◌+◌, ◌≤◌, Bool, true, false, cond, List, [], ◌∷◌, ◌++◌, append_assoc, filter, length, not, None, eq-eqb, refl, sym, ap, subst, if◌then◌else◌, arith}
use Rattle.std.specs.Ordering.{is_lt}
use Rattle.std.specs.declared.cmp.Ordering.{Ordering}
use Rattle.order_kinds.specs.declared.order.BlockOrder.{BlockOrder}
use Rattle.order_kinds.specs.declared.order.OrderName.{OrderName}
use Rattle.zone_graph.specs.InOrder.{put_in_order}
use Rattle.contract_book.specs.Book.{order_count}
use Rattle.block_book.specs.declared.block.RestingBlock.{RestingBlock}
use Rattle.block_book.specs.Blocks.{number_cmp}
use Rattle.block_book.specs.Book.{has_number, with_block, without}
use Rattle.laws_of_books.specs.BlocksOf.{blocks_of, entered_resting_block}
use Rattle.laws_of_books.specs.LegLaws.{without_both}
use Rattle.block_match.specs.declared.deal.BlockDeal.{BlockDeal}
use Rattle.block_match.specs.Market.{deal_events}
use Rattle.laws_of_books.specs.BookOf.{book_of}
use Rattle.laws_of_hours.specs.Standing.{Stands}
use Rattle.market_model.specs.declared.event.Event.{Event}
use Rattle.market_model.specs.Board.{IsHourOf}
use Rattle.market_model.specs.History.{and_then}
use Rattle.market_model.specs.Orders.{next_name}
use Rattle.market_model.specs.Refusals.{desk_room}
use Rattle.market_model.specs.WellFormed.{BlockEnters}
use Rattle.laws_of_market.proofs.Counts.{fewer-le}
use Rattle.laws_of_hours.specs.BlockEvents.{RestsAsBlock}
use Rattle.laws_of_hours.specs.OrderEvents.{resting_count}
use Rattle.laws_of_hours.proofs.BlockEntries.{enters}
use Rattle.laws_of_hours.proofs.NextEvents.{first_of_many, next}
use Rattle.laws_of_hours.proofs.Numbers.{count-more, one_if}
use Rattle.laws_of_hours.proofs.OpenCounts.{all_rest}
use Rattle.hour_store.specs.Store.{StillLeadsBack, Store}
use Rattle.kept_hour.specs.Deals.{CanCarryAll, ClosesBoth, IsDealtIn, NotesDeal, dealt_entry, with_entry}
use Rattle.kept_hour.specs.Kept.{Keeps}
use Rattle.kept_hour.specs.Planned.{CanFollow, after_events}
use Rattle.kept_hour.specs.State.{HourState, block_entry_of}
use Rattle.kept_hour.proofs.Changing.{bare-book, few-before}
use Rattle.kept_hour.proofs.MadeDeals.{IsDealt, both-out, can-carry, dealt, stand-after}
use Rattle.kept_hour.proofs.Noting.{deal-flows, noted-next, notes-plain}

-- ---- books

-- an item that fails a test leaves what passes as it was, wherever it is put
filter-put : {X : Type 0} (p : X → Bool) (cmp : X → X → Ordering) (x : X) (xs : List X) → p x ≡ false → filter p (put_in_order cmp xs x) ≡ filter p xs
filter-put p cmp x [] fails = ap (λ b. cond b (x ∷ []) []) fails
filter-put {X} p cmp x (y ∷ ys) fails = go (is_lt (cmp x y)) (filter-put p cmp x ys fails)
  where
    go : (b : Bool) → filter p (put_in_order cmp ys x) ≡ filter p ys
        → filter p (if b then (x ∷ y ∷ ys) else (y ∷ put_in_order cmp ys x)) ≡ filter p (y ∷ ys)
    go true rest = ap (λ b. cond b (x ∷ filter p (y ∷ ys)) (filter p (y ∷ ys))) fails
    go false rest = ap (λ zs. cond (p y) (y ∷ zs) zs) rest

-- a block that comes to a book and leaves again is in none
without-entered : (book : List RestingBlock) (block : RestingBlock) → without (with_block book block) block.number ≡ without book block.number
without-entered book block =
    filter-put (λ b. not (has_number block.number b)) number_cmp block book (ap not (eq-eqb block.number block.number refl))

-- no more blocks stand in a book without two of them
pub fewer-without : (book : List RestingBlock) (number : ℕ) → length (without book number) ≤ length book
fewer-without book number =
    let few = fewer-le (λ b. not (has_number number b)) (λ b. true) book (λ b i stays. refl) in
    let all = all-pass book in
    omega (arith, few, all)
  where
    all-pass : (blocks : List RestingBlock) → length (filter (λ (b : RestingBlock). true) blocks) ≡ length blocks
    all-pass [] = refl
    all-pass (b ∷ blocks) = let rest = all-pass blocks in omega (arith, rest)

-- ---- the hour

module _ (hour : HourState) (numbers settled_numbers : ℕ) (store : Store) (keeps : Keeps hour numbers settled_numbers store) (free : hour.board.hand ≡ None)
    (caller : ℕ) (order : BlockOrder) (deal : BlockDeal) (follows : CanFollow hour (dealt_entry hour caller order deal)) where
  abbrev entry : Event
  entry = block_entry_of hour caller order

  abbrev name : OrderName
  name = next_name hour.board.events hour.board.hour

  abbrev entered : List Event
  entered = and_then hour.board.events entry

  abbrev legs : List Event
  legs = deal_events order.first order.last deal

  abbrev after : List Event
  after = hour.board.events ++ dealt_entry hour caller order deal

  whole-is : entered ++ legs ≡ after
  whole-is = append_assoc hour.board.events (entry ∷ []) legs

  legs-follow : IsHourOf hour.board.grid hour.board.hour (entered ++ legs)
  legs-follow = subst (IsHourOf hour.board.grid hour.board.hour) (sym whole-is) follows

  entry-follows : IsHourOf hour.board.grid hour.board.hour entered
  entry-follows = first_of_many hour.board.grid hour.board.hour entered legs legs-follow

  rests : RestsAsBlock hour.board.grid hour.board.hour hour.board.events entered name caller order
  rests = enters hour.board.grid hour.board.hour hour.board.events name caller order entry-follows

  in-hour : hour.board.hour ≡ order.first
  in-hour =
      let own = next hour.board.grid hour.board.hour hour.board.events entry entry-follows in
      let named : BlockEnters own.setup own.history name caller order = own.fits in
      ap (λ (n : OrderName). n.hour) named.named

  pub number-is : numbers + 1 ≡ name.number
  number-is = ap (λ n. n + 1) keeps.numbered

  is-dealt : IsDealt hour.board.grid hour.board.hour order.first order.last deal entered (entered ++ legs)
  is-dealt = dealt hour.board.grid hour.board.hour order.first order.last deal deal.legs entered legs-follow

  entered-stand : Stands hour.board.grid entered hour.board.hour store.contents.flows
  entered-stand = rests.flows store.contents.flows keeps.contents.flows

  pub can-carry-all : CanCarryAll store.contents.flows deal.legs
  can-carry-all =
      can-carry hour.board.grid hour.board.hour order.first order.last deal deal.legs entered store.contents.flows legs-follow entered-stand

  -- without its number the book of the hour with the entry is that before it
  entry-out : deal.taker ≡ name.number → without_both (blocks_of entered hour.board.hour) deal.taker deal.maker
      ≡ without_both (blocks_of hour.board.events hour.board.hour) deal.taker deal.maker
  entry-out takes =
      ap (λ b. without_both b deal.taker deal.maker) rests.blocks
      ∙ ap (λ b. without b deal.maker)
      (subst (λ n. without (with_block (blocks_of hour.board.events hour.board.hour) block) n ≡ without (blocks_of hour.board.events hour.board.hour) n)
      (sym takes) (without-entered (blocks_of hour.board.events hour.board.hour) block))
    where
      block : RestingBlock
      block = entered_resting_block name caller order (length hour.board.events + 1)

  module _ (takes : deal.taker ≡ name.number) (whole : ClosesBoth (with_entry hour caller order) order.first order.last deal) where
    -- neither block is left
    out : blocks_of (entered ++ legs) hour.board.hour ≡ without_both (blocks_of hour.board.events hour.board.hour) deal.taker deal.maker
    out =
        both-out hour.board.grid hour.board.hour order.first order.last deal entered legs-follow in-hour whole.taker whole.maker
        ∙ entry-out takes

    few-after : resting_count (entered ++ legs) hour.board.hour None ≤ desk_room
    few-after =
        let none : (events : List Event) (stands : IsHourOf hour.board.grid hour.board.hour events)
        → resting_count events hour.board.hour None ≡ order_count (book_of events hour.board.hour) + length (blocks_of events hour.board.hour) =
        λ events stands. all_rest hour.board.grid hour.board.hour events None stands (λ number holds. absurd (let no : ⊥ = cc in no)) in
        let now = none (entered ++ legs) legs-follow in
        let was = none hour.board.events (first_of_many hour.board.grid hour.board.hour hour.board.events (dealt_entry hour caller order deal) follows) in
        let few = few-before hour numbers settled_numbers store keeps free in
        let book = ap order_count (is-dealt.book ∙ rests.book) in
        let blocks = ap length out in
        let one = fewer-without (blocks_of hour.board.events hour.board.hour) deal.taker in
        let two = fewer-without (without (blocks_of hour.board.events hour.board.hour) deal.taker) deal.maker in
        omega (arith, now, was, few, book, blocks, one, two)

    pub entry-keeps : (new : Store) → IsDealtIn true deal store.contents new.contents → StillLeadsBack store new
        → NotesDeal deal store.changes new.changes → Keeps (after_events hour (dealt_entry hour caller order deal)) (numbers + 1) settled_numbers new
    entry-keeps new made back noted = record {
      board = record {
        stands = follows;
        few = subst (λ es. resting_count es hour.board.hour None ≤ desk_room) whole-is few-after;
      };
      contents = record {
        book = made.book ∙ bare-book hour numbers settled_numbers store keeps free ∙ sym (is-dealt.book ∙ rests.book) ∙ ap (λ es. book_of es hour.board.hour) whole-is;
        blocks = made.blocks ∙ ap (λ b. without_both b deal.taker deal.maker) keeps.contents.blocks ∙ sym out ∙ ap (λ es. blocks_of es hour.board.hour) whole-is;
        flows = subst (λ es. Stands hour.board.grid es hour.board.hour new.contents.flows) whole-is
            (stand-after hour.board.grid hour.board.hour order.first order.last deal deal.legs entered store.contents.flows new.contents.flows legs-follow entered-stand made.flows);
      };
      numbered = (let same = ap (λ (n : OrderName). n.number) (ap (λ es. next_name es hour.board.hour) (sym whole-is) ∙ is-dealt.same_next) in
          let more = count-more hour.board.hour hour.board.events entry in
          let one = ap one_if (eq-eqb hour.board.hour hour.board.hour refl) in
          let now = keeps.numbered in omega (arith, same, more, one, now));
      in_hand = λ number holds. absurd (let no : ⊥ = cc in no);
      settled = keeps.settled;
      settled_numbered = keeps.settled_numbered;
      target = keeps.target;
      back = back keeps.target keeps.back;
      target_of = keeps.target_of;
      noted = noted-next hour (dealt_entry hour caller order deal) None store.changes new.changes keeps.noted
          (notes-plain hour (dealt_entry hour caller order deal) store.changes new.changes noted.orders
          (deal-flows order.first order.last deal store.changes new.changes noted));
    }
