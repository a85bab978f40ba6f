-- A block that enters finds in the book and the rooms as they were before what it finds in the market.
use Rattle.std.proofs.Common.{◌≡◌, ◌≢◌, ◌∙◌, inl, inr, ℕ, ◌+◌, ◌≤◌, ◌==◌, ◌&&◌, true, false, List, [], ◌∷◌, find, nat_lt, length, if◌then◌else◌, refl, sym, ap, subst, eq-eqb, arith}
use Rattle.std.proofs.lemmas.Bool.{lt-ltb}
use Rattle.std.specs.Option.{option_map}
use Rattle.order_kinds.specs.declared.order.BlockOrder.{BlockOrder}
use Rattle.order_kinds.specs.declared.order.OrderName.{OrderName}
use Rattle.order_kinds.specs.declared.phase.Phase.TheVariants as phase
use Rattle.order_kinds.specs.declared.side.Side.{Side}
use Rattle.order_kinds.specs.declared.side.Side.TheVariants.{Buy, Sell}
use Rattle.order_kinds.specs.Period.{block_quarters}
use Rattle.order_kinds.specs.Side.{opposite}
use Rattle.zone_graph.specs.Graph.{Graph}
use Rattle.zone_graph.specs.Route.{IsIn}
use Rattle.zone_graph.proofs.Membership.{IsIn-right}
use Rattle.block_book.specs.declared.block.RestingBlock.{RestingBlock}
use Rattle.block_book.specs.Book.{line_of}
use Rattle.block_book.proofs.Lists.{is_of-side}
use Rattle.market_model.specs.declared.event.Event.{Event}
use Rattle.market_model.specs.declared.event.Event.TheVariants as event
use Rattle.market_model.specs.declared.setup.Setup.{Setup}
use Rattle.market_model.specs.Blocks.{with_block}
use Rattle.market_model.specs.Grid.{graph_of}
use Rattle.market_model.specs.History.{of_hour}
use Rattle.market_model.specs.Orders.{PlacedBlock, block_moment, block_placed_by, blocks_placed, is_open, left, next_name}
use Rattle.market_model.specs.Room.{halt_by, phase_by}
use Rattle.market_model.specs.WellFormed.{BlockEnters, IsHistory, IsMarketSetup}
use Rattle.laws_of_market.proofs.Capacities.{allocated-more, last_said-more, offered-more, room-same}
use Rattle.laws_of_market.proofs.Members.{IsIn-filter_map, from_filter_map}
use Rattle.laws_of_market.proofs.Names.{block_name-new, names-once, times_entered}
use Rattle.laws_of_market.proofs.Placed.{from_picked-more, picked-stays}
use Rattle.laws_of_market.proofs.Soundness.{block_fault-none, lots_in_range-bounds}
use Rattle.laws_of_market.proofs.Unique.{enters-block_placed, times-some}
use Rattle.laws_of_market.proofs.Wholes.{history-more, left-untouched, new_block-whole, other_name}
use Rattle.laws_of_market.proofs.LocalMoments.{block_moment-more}
use Rattle.zone_graph.specs.Pour.{lots_if}
use Rattle.block_match.specs.Deals.{deal_with}
use Rattle.laws_of_books.specs.BlocksOf.{blocks_of, rests_from, resting_block}
use Rattle.block_match.specs.Market.{EnteringBlocksDealAsInTheMarket, IsMarketDeal, deal_events, entered_block, rooms_over}
use Rattle.block_match.specs.Meeting.{can_trade}
use Rattle.laws_of_books.proofs.BlocksKept.{resting-same}
use Rattle.laws_of_books.proofs.MarketBooks.{book-differ, from-book, line-same, rests-named, to-book}
use Rattle.block_match.proofs.MarketDeals.{open-deal}

not-opposite : (side : Side) → side ≢ opposite side
not-opposite Buy e = absurd (cc)
not-opposite Sell e = absurd (cc)

module _ (setup : Setup) (is_setup : IsMarketSetup setup) (events : List Event) (history : IsHistory setup events) (caller : ℕ) (order : BlockOrder)
    (enters : BlockEnters setup events (next_name events order.first) caller order) where
  abbrev first : ℕ
  first = order.first

  abbrev name : OrderName
  name = next_name events order.first

  abbrev entry : Event
  entry = event.EnteredBlock name caller order

  abbrev own : PlacedBlock
  own = entered_block events caller order

  abbrev after : List Event
  after = with_block events caller order

  history_after : IsHistory setup after
  history_after = history-more setup events entry history enters tt

  own_in : IsIn own (blocks_placed after)
  own_in = IsIn-filter_map block_placed_by entry own after (IsIn-right entry events (entry ∷ []) (inl refl)) refl

  own_open : is_open after own.name ≡ true
  own_open =
      let some = (lots_in_range-bounds order.quantity (block_fault-none order enters.sound).quantity).0 in
      let whole : left after own.name ≡ order.quantity.0 = new_block-whole setup events history.fit own entry enters refl in
      lt-ltb 0 (left after own.name) (omega (arith, some, whole))

  -- the entry leaves the rooms as they are
  rooms-stay : rooms_over after first order.last ≡ rooms_over events first order.last
  rooms-stay = room-same after events (record {
    allocated_same = λ quarter arc. let more = allocated-more events entry quarter arc in omega (arith, more);
    offered_same = λ quarter arc. offered-more events entry quarter arc;
    phase_same = λ hour. last_said-more (phase_by hour) phase.Open events entry;
    halted_same = λ border hour. last_said-more (halt_by border hour) false events entry;
  }) (block_quarters first order.last)

  -- a block that was there has another name, and stays as it is
  other-named : (block : PlacedBlock) → IsIn block (blocks_placed events) → name ≢ block.name
  other-named block i = λ same.
      let x = from_filter_map block_placed_by block events i in
      let given : 1 ≤ times_entered events block.name = times-some block.name x.0 events x.1 (enters-block_placed block x.0 x.2) in
      let fresh : times_entered events name ≡ 0 = block_name-new setup events name caller order (names-once setup events history.fit) enters in
      let none : times_entered events block.name ≡ 0 = subst (λ n. times_entered events n ≡ 0) same fresh in
      omega (arith, given, none)

  left-stays : (block : PlacedBlock) → IsIn block (blocks_placed events) → left after block.name ≡ left events block.name
  left-stays block i = left-untouched events entry block.name (ap (λ b. lots_if b order.quantity.0) (other_name name block.name (other-named block i))) refl refl

  moment-stays : (block : PlacedBlock) → IsIn block (blocks_placed events) → block.name.hour ≡ first → block_moment after block ≡ block_moment events block
  moment-stays block i hour =
      block_moment-more first events entry block (eq-eqb first first refl) hour
      ∙ ap (λ b. if b then length (of_hour first events) + 1 else block_moment events block) (other_name name block.name (other-named block i))

  block-stays : (block : PlacedBlock) → IsIn block (blocks_placed events) → block.name.hour ≡ first → resting_block after block ≡ resting_block events block
  block-stays block i hour = resting-same events after block (left-stays block i) (moment-stays block i hour)

  rests-stays : (block : PlacedBlock) → IsIn block (blocks_placed events) → rests_from after first block ≡ rests_from events first block
  rests-stays block i = ap (λ n. nat_lt 0 n && (block.order.first == first)) (left-stays block i)

  -- so the opposite line of the period is the same without the block
  line-stays : line_of (blocks_of after first) order.last (opposite order.side) ≡ line_of (blocks_of events first) order.last (opposite order.side)
  line-stays =
      line-same (blocks_of after first) (blocks_of events first) order.last (opposite order.side)
      (book-differ setup after history_after.fit first) (book-differ setup events history.fit first)
      (λ x of_line i.
      let rests = from-book setup after history_after.fit first x i in
      elim (from_picked-more block_placed_by rests.block events entry rests.is_placed) [
        | inr is ↦
            let same : own ≡ rests.block = cc in
            let side : order.side ≡ opposite order.side = ap (λ (b : PlacedBlock). b.order.side) same ∙ ap (λ (b : RestingBlock). b.side) (sym rests.is) ∙ is_of-side order.last (opposite order.side) x of_line in
            absurd (not-opposite order.side side)
        | inl there ↦
            let here : rests_from events first rests.block ≡ true = sym (rests-stays rests.block there) ∙ rests.rests in
            subst (λ b. IsIn b (blocks_of events first)) (sym (rests.is ∙ block-stays rests.block there (rests-named setup events history.fit first rests.block there here)))
            (to-book setup events history.fit first rests.block there here)
      ])
      (λ x of_line i.
      let rests = from-book setup events history.fit first x i in
      subst (λ b. IsIn b (blocks_of after first))
      (block-stays rests.block rests.is_placed (rests-named setup events history.fit first rests.block rests.is_placed rests.rests) ∙ sym rests.is)
      (to-book setup after history_after.fit first rests.block (picked-stays block_placed_by rests.block events (entry ∷ []) rests.is_placed)
      (rests-stays rests.block rests.is_placed ∙ rests.rests)))

  pub entering-deal : IsMarketDeal (graph_of setup) after own (rooms_over events first order.last) (blocks_of events first)
  entering-deal =
      let deal = open-deal setup is_setup after history_after own own_in own_open in
      let graph : Graph = graph_of setup in
      let at : RestingBlock = resting_block after own in
      subst (λ rooms. IsMarketDeal graph after own rooms (blocks_of events first)) rooms-stay (record {
        found = deal.found;
        in_market = deal.in_market;
        in_book = ap (find (can_trade graph (rooms_over after first order.last) at)) (sym line-stays) ∙ deal.in_book;
        legs = deal.legs
            ∙ ap (λ line. option_map (deal_events first order.last) (option_map (deal_with graph (rooms_over after first order.last) at)
            (find (can_trade graph (rooms_over after first order.last) at) line))) line-stays;
      })

pub entering_blocks : EnteringBlocksDealAsInTheMarket
entering_blocks setup events caller order is_setup history enters = entering-deal setup is_setup events history caller order enters
