-- What the legs of a deal make of the book of the hour in which the two blocks start.
use Rattle.std.proofs.Common.{◌≡◌, ◌≢◌, ◌∙◌, inl, inr, ℕ, true, List, [], ◌++◌, Some, eqb-true, refl, sym, ap, subst, arith}
use Rattle.std.proofs.lemmas.Bool.{ltb-true}
use Rattle.order_kinds.specs.declared.order.BlockOrder.{BlockOrder}
use Rattle.order_kinds.specs.declared.order.OrderName.{OrderName}
use Rattle.zone_graph.specs.InOrder.{IsStrictlyInOrder}
use Rattle.zone_graph.specs.Route.{IsIn}
use Rattle.zone_graph.proofs.InOrder.{IsIn-put_in_order, from_put_in_order, in_order-filter}
use Rattle.block_book.specs.declared.block.RestingBlock.{RestingBlock}
use Rattle.block_book.specs.Blocks.{number_cmp}
use Rattle.block_book.specs.Book.{with_block, without}
use Rattle.block_book.specs.Priority.{number_total}
use Rattle.block_book.proofs.Lists.{from_without, in_without, number-ties, one_list}
use Rattle.market_model.specs.declared.event.Event.{Event}
use Rattle.market_model.specs.declared.event.Event.TheVariants as event
use Rattle.market_model.specs.declared.setup.Setup.{Setup}
use Rattle.market_model.specs.Blocks.{StandingBlock, block_leg, block_leg_over, block_legs, standing_block}
use Rattle.market_model.specs.Grid.{graph_of}
use Rattle.market_model.specs.History.{and_then}
use Rattle.market_model.specs.Orders.{PlacedBlock, block_moment, is_open, left}
use Rattle.market_model.specs.WellFormed.{FitAfter, Fits, IsHistory, IsMarketSetup}
use Rattle.laws_of_market.proofs.BlockDeals.{IsDealt, IsOpenNow, deal-dealt, pour-start}
use Rattle.laws_of_market.proofs.Pours.{ArePair, PourKeeps, block_leg-is, pour-step}
use Rattle.laws_of_market.proofs.Repeats.{history-keep}
use Rattle.laws_of_market.proofs.Wholes.{history-more}
use Rattle.laws_of_books.specs.BookOf.{next_moment}
use Rattle.laws_of_books.proofs.LineOrders.{same_names}
use Rattle.laws_of_books.specs.BlocksOf.{blocks_of, entered_resting_block}
use Rattle.laws_of_books.specs.DealLaws.{DealsTakeBothOut, EnteringDealsTakeTheMakerOut, IsDeal, placed_block, with_deal}
use Rattle.laws_of_books.proofs.BlocksElsewhere.{book-elsewhere, named, open-rests}
use Rattle.laws_of_books.proofs.EnteredAndWithdrawn.{apart-new, book-entered}
use Rattle.laws_of_books.proofs.BlocksKept.{book-by, moment-kept, stays-in}
use Rattle.laws_of_books.proofs.MarketBooks.{book-strict, from-book, rests-named}

module _ (setup : Setup) (is_setup : IsMarketSetup setup) (start : List Event) (history : IsHistory setup start)
    (taker maker : PlacedBlock) (pair : ArePair taker maker) (taker_open : IsOpenNow start taker) (maker_open : IsOpenNow start maker) where
  abbrev own : StandingBlock
  own = standing_block start taker

  abbrev other : StandingBlock
  other = standing_block start maker

  abbrev dealt : List Event
  dealt = start ++ block_legs (graph_of setup) own other start

  -- what each leg keeps: what a pour keeps, and the moments of blocks
  record Keeps (events : List Event) : Type 0 where
    pour : PourKeeps setup start taker maker events
    moments : (block : PlacedBlock) → block_moment events block ≡ block_moment start block

  keeps-step : (events : List Event) (e : Event) → Keeps events → block_leg (graph_of setup) own other events ≡ Some e → Keeps (and_then events e)
  keeps-step events e kept is =
      let made = block_leg-is setup is_setup start taker maker own other pair taker_open.is_placed maker_open.is_placed refl refl refl refl events e is in
      let step = pour-step setup is_setup start taker maker own other pair taker_open.is_placed maker_open.is_placed refl refl refl refl events e kept.pour is in
      record {
        pour = step.kept;
        moments = λ block. subst (λ f. block_moment (and_then events f) block ≡ block_moment start block) made.is
            (moment-kept events (block_leg_over own other made.leg) block refl ∙ kept.moments block);
      }

  all-kept : Keeps dealt
  unfolding block_legs
  all-kept =
      history-keep (left start own.name) (block_leg (graph_of setup) own other) Keeps keeps-step start
      (record { pour = pour-start setup is_setup start history taker maker pair taker_open maker_open; moments = λ block. refl })

  fit_dealt : FitAfter setup [] dealt
  fit_dealt = all-kept.pour.fit

  module _ (whole : left dealt taker.name ≡ 0) where
    is_dealt : IsDealt setup is_setup start history taker maker pair taker_open maker_open dealt
    is_dealt = deal-dealt setup is_setup start history taker maker pair taker_open maker_open dealt all-kept.pour whole

    -- what is open after the deal is neither of the two
    other-open : (name : OrderName) (block : PlacedBlock) → left dealt name ≡ 0 → is_open dealt block.name ≡ true → name ≢ block.name
    other-open name block closed opened same =
        let some = ltb-true 0 (left dealt block.name) opened in
        let none : left dealt block.name ≡ 0 = ap (left dealt) (sym same) ∙ closed in
        absurd (omega (arith, some, none))

    taker_hour : taker.name.hour ≡ taker.order.first
    taker_hour = named setup start history.fit taker taker_open.is_placed

    maker_hour : maker.name.hour ≡ taker.order.first
    maker_hour = named setup start history.fit maker maker_open.is_placed ∙ pair.one_first

    pub book-dealt : blocks_of dealt taker.order.first ≡ without (without (blocks_of start taker.order.first) taker.name.number) maker.name.number
    book-dealt =
        let first : ℕ = taker.order.first in
        let book : List RestingBlock = blocks_of start first in
        book-by setup dealt fit_dealt first (without (without book taker.name.number) maker.name.number)
        (in_order-filter number_cmp _ (without book taker.name.number) (in_order-filter number_cmp _ book (book-strict setup start history.fit first)))
        (λ x there.
        let opened = open-rests dealt first there.block there.rests in
        let hour = rests-named setup dealt fit_dealt first there.block there.is_placed there.rests in
        let not_taker = other-open taker.name there.block whole opened in
        let not_maker = other-open maker.name there.block is_dealt.maker_closed opened in
        let number = ap (λ (r : RestingBlock). r.number) there.is in
        in_without maker.name.number x (without book taker.name.number)
        (in_without taker.name.number x book
        (stays-in setup dealt start fit_dealt history.fit first x there (subst (IsIn there.block) all-kept.pour.blocks there.is_placed)
        (sym (all-kept.pour.others there.block.name not_taker not_maker)) (sym (all-kept.moments there.block)))
        (λ same. not_taker (same_names taker.name there.block.name (taker_hour ∙ sym hour) (sym (sym number ∙ same)))))
        (λ same. not_maker (same_names maker.name there.block.name (maker_hour ∙ sym hour) (sym (sym number ∙ same)))))
        (λ x i.
        let behind = from_without maker.name.number x (without book taker.name.number) i in
        let was = from_without taker.name.number x book behind.0 in
        let there = from-book setup start history.fit first x was.0 in
        let number = ap (λ (r : RestingBlock). r.number) there.is in
        let not_taker : taker.name ≢ there.block.name = λ same. was.1 (number ∙ ap (λ (n : OrderName). n.number) (sym same)) in
        let not_maker : maker.name ≢ there.block.name = λ same. behind.1 (number ∙ ap (λ (n : OrderName). n.number) (sym same)) in
        stays-in setup start dealt history.fit fit_dealt first x there (subst (IsIn there.block) (sym all-kept.pour.blocks) there.is_placed)
        (all-kept.pour.others there.block.name not_taker not_maker) (all-kept.moments there.block))

    -- and leaves the books of the other hours as they were
    pub book-undealt : (hour : ℕ) → hour ≢ taker.order.first → blocks_of dealt hour ≡ blocks_of start hour
    book-undealt hour elsewhere =
        book-by setup dealt fit_dealt hour (blocks_of start hour) (book-strict setup start history.fit hour)
        (λ x there.
        let own_hour = rests-named setup dealt fit_dealt hour there.block there.is_placed there.rests in
        stays-in setup dealt start fit_dealt history.fit hour x there (subst (IsIn there.block) all-kept.pour.blocks there.is_placed)
        (sym (all-kept.pour.others there.block.name (apart taker.name there.block taker_hour own_hour) (apart maker.name there.block maker_hour own_hour)))
        (sym (all-kept.moments there.block)))
        (λ x i.
        let there = from-book setup start history.fit hour x i in
        let own_hour = rests-named setup start history.fit hour there.block there.is_placed there.rests in
        stays-in setup start dealt history.fit fit_dealt hour x there (subst (IsIn there.block) (sym all-kept.pour.blocks) there.is_placed)
        (all-kept.pour.others there.block.name (apart taker.name there.block taker_hour own_hour) (apart maker.name there.block maker_hour own_hour))
        (all-kept.moments there.block))
      where
        apart : (name : OrderName) (block : PlacedBlock) → name.hour ≡ taker.order.first → block.name.hour ≡ hour → name ≢ block.name
        apart name block first own_hour same = elsewhere (sym own_hour ∙ ap (λ (n : OrderName). n.hour) (sym same) ∙ first)

-- a block that is put into a book and taken out again leaves it as it was
without-put : (book : List RestingBlock) (block : RestingBlock) → IsStrictlyInOrder number_cmp book → IsStrictlyInOrder number_cmp (with_block book block)
    → ((x : RestingBlock) → IsIn x book → block.number ≢ x.number) → without (with_block book block) block.number ≡ book
without-put book block strict strict_too apart =
    one_list number_cmp number_total number-ties (without (with_block book block) block.number) book (in_order-filter number_cmp _ (with_block book block) strict_too) strict
    (λ x i.
    let there = from_without block.number x (with_block book block) i in
    elim (from_put_in_order number_cmp x book block there.0) [
      | inl same ↦ absurd (there.1 (ap (λ (b : RestingBlock). b.number) same))
      | inr old ↦ old
    ])
    (λ x i. in_without block.number x (with_block book block) (IsIn-put_in_order number_cmp x book block (inr i)) (λ same. apart x i (sym same)))

module _ (setup : Setup) (is_setup : IsMarketSetup setup) (events : List Event) (history : IsHistory setup events) (name : OrderName) (caller : ℕ) (order : BlockOrder)
    (fits : Fits setup events (event.EnteredBlock name caller order)) where
  abbrev entry : Event
  entry = event.EnteredBlock name caller order

  abbrev entered : List Event
  entered = and_then events entry

  abbrev new : PlacedBlock
  new = record { name = name; caller = caller; order = order }

  abbrev at_rest : RestingBlock
  at_rest = entered_resting_block name caller order (next_moment events order.first)

  history_entered : IsHistory setup entered
  history_entered = history-more setup events entry history fits tt

  -- a block that enters and trades at once is not in the book
  pub book-passed : (maker : PlacedBlock) (pair : ArePair new maker) (new_open : IsOpenNow entered new) (maker_open : IsOpenNow entered maker)
      → left (entered ++ block_legs (graph_of setup) (standing_block entered new) (standing_block entered maker) entered) name ≡ 0
      → blocks_of (entered ++ block_legs (graph_of setup) (standing_block entered new) (standing_block entered maker) entered) order.first
      ≡ without (blocks_of events order.first) maker.name.number
  book-passed maker pair new_open maker_open whole =
      let book : List RestingBlock = blocks_of events order.first in
      let put : blocks_of entered order.first ≡ with_block book at_rest = book-entered setup events history.fit name caller order fits in
      book-dealt setup is_setup entered history_entered new maker pair new_open maker_open whole
      ∙ ap (λ b. without (without b name.number) maker.name.number) put
      ∙ ap (λ b. without b maker.name.number)
      (without-put book at_rest (book-strict setup events history.fit order.first)
      (subst (IsStrictlyInOrder number_cmp) put (book-strict setup entered history_entered.fit order.first))
      (apart-new setup events history.fit name caller order fits))

  -- and the other hours know nothing of it
  pub book-passed_by : (maker : PlacedBlock) (pair : ArePair new maker) (new_open : IsOpenNow entered new) (maker_open : IsOpenNow entered maker)
      → left (entered ++ block_legs (graph_of setup) (standing_block entered new) (standing_block entered maker) entered) name ≡ 0
      → (hour : ℕ) → hour ≢ order.first
      → blocks_of (entered ++ block_legs (graph_of setup) (standing_block entered new) (standing_block entered maker) entered) hour ≡ blocks_of events hour
  book-passed_by maker pair new_open maker_open whole hour elsewhere =
      book-undealt setup is_setup entered history_entered new maker pair new_open maker_open whole hour elsewhere
      ∙ book-elsewhere setup events history.fit hour entry fits (λ same. elsewhere (sym same))

-- the two blocks of a deal, and that it carries all
module _ (setup : Setup) (events : List Event) (taker maker : PlacedBlock) (deal : IsDeal setup events taker maker) where
  pair_of : ArePair taker maker
  pair_of = record { one_first = deal.one_first; one_last = deal.one_last; one_quantity = deal.one_quantity; opposed = deal.opposed }

  taker_of : IsOpenNow events taker
  taker_of = record { is_placed = deal.taker_open.is_placed; is_left = deal.taker_open.is_left }

  maker_of : IsOpenNow events maker
  maker_of = record { is_placed = deal.maker_open.is_placed; is_left = deal.maker_open.is_left }

  carried_of : left (with_deal setup events taker maker) taker.name ≡ 0
  carried_of = eqb-true (left (with_deal setup events taker maker) taker.name) 0 deal.whole

pub both_out : DealsTakeBothOut
both_out setup events taker maker is_setup history deal = (
  book-dealt setup is_setup events history taker maker (pair_of setup events taker maker deal) (taker_of setup events taker maker deal)
      (maker_of setup events taker maker deal) (carried_of setup events taker maker deal),
  λ hour elsewhere. book-undealt setup is_setup events history taker maker (pair_of setup events taker maker deal) (taker_of setup events taker maker deal)
      (maker_of setup events taker maker deal) (carried_of setup events taker maker deal) hour elsewhere,
)

pub maker_out : EnteringDealsTakeTheMakerOut
maker_out setup events name caller order maker is_setup history fits deal =
    let entered : List Event = and_then events (event.EnteredBlock name caller order) in
    let taker : PlacedBlock = placed_block name caller order in
    let pair = pair_of setup entered taker maker deal in
    let taker_open = taker_of setup entered taker maker deal in
    let maker_open = maker_of setup entered taker maker deal in
    let whole = carried_of setup entered taker maker deal in (
      book-passed setup is_setup events history name caller order fits maker pair taker_open maker_open whole,
      λ hour elsewhere. book-passed_by setup is_setup events history name caller order fits maker pair taker_open maker_open whole hour elsewhere,
    )
