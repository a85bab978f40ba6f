-- A leg of two blocks leaves all others of their hour as they were, and a block that is closed is gone.
use Rattle.std.proofs.Common.{◌≡◌, ◌≢◌, ◌∙◌, inl, inr, ℕ, false, List, [], sym, ap}
use Rattle.std.proofs.lemmas.Bool.{true≢false}
use Rattle.order_kinds.specs.declared.order.OrderName.{OrderName}
use Rattle.zone_graph.specs.InOrder.{IsStrictlyInOrder}
use Rattle.zone_graph.specs.Route.{IsIn}
use Rattle.zone_graph.proofs.InOrder.{in_order-filter}
use Rattle.block_book.specs.declared.block.RestingBlock.{RestingBlock}
use Rattle.block_book.specs.Blocks.{number_cmp}
use Rattle.block_book.specs.Book.{without}
use Rattle.block_book.specs.Priority.{number_total}
use Rattle.block_book.proofs.Lists.{from_without, in_without, number-ties, one_list}
use Rattle.market_model.specs.declared.event.Event.{Event}
use Rattle.market_model.specs.declared.event.Event.TheVariants as event
use Rattle.market_model.specs.declared.event.Leg.{Leg}
use Rattle.market_model.specs.declared.setup.Setup.{Setup}
use Rattle.market_model.specs.History.{and_then}
use Rattle.market_model.specs.Orders.{PlacedBlock, block_placed_by, is_open}
use Rattle.market_model.specs.WellFormed.{FitAfter, Fits}
use Rattle.laws_of_market.proofs.Placed.{from_picked-more}
use Rattle.laws_of_market.proofs.Repeats.{fit-more}
use Rattle.laws_of_market.proofs.Wholes.{names-other}
use Rattle.laws_of_books.proofs.LineOrders.{same_names}
use Rattle.laws_of_books.proofs.Untouched.{concerns}
use Rattle.laws_of_books.specs.BlocksOf.{blocks_of}
use Rattle.laws_of_books.specs.LegLaws.{ClosedBlocksAreGone, LegsLeaveTheOtherBlocks, without_both}
use Rattle.laws_of_books.proofs.BlocksElsewhere.{open-rests}
use Rattle.laws_of_books.proofs.BlocksKept.{there-after, there-before}
use Rattle.laws_of_books.proofs.MarketBooks.{book-strict, from-book, rests-named}

module _ (setup : Setup) (events : List Event) (fit : FitAfter setup [] events) (first last : ℕ) (leg : Leg)
    (fits : Fits setup events (event.BlockLeg first last leg)) where
  abbrev trade : Event
  trade = event.BlockLeg first last leg

  abbrev after : List Event
  after = and_then events trade

  fit_after : FitAfter setup [] after
  fit_after = fit-more setup events trade fit fits

  -- a number is neither of the two
  record IsOther (number : ℕ) : Type 0 where
    taker : number ≢ leg.taker.number
    maker : number ≢ leg.maker.number

  not_concerned : (block : PlacedBlock) → IsOther block.name.number → concerns block.name trade ≡ false
  not_concerned block other =
      names-other leg block.name (λ same. other.taker (ap (λ (n : OrderName). n.number) (sym same))) (λ same. other.maker (ap (λ (n : OrderName). n.number) (sym same)))

  -- so such a block rests before as after
  rested : (x : RestingBlock) → IsOther x.number → IsIn x (blocks_of after first) → IsIn x (blocks_of events first)
  rested x other i =
      let there = from-book setup after fit_after first x i in
      let number = ap (λ (r : RestingBlock). r.number) there.is in
      let own : IsOther there.block.name.number = record { taker = λ same. other.taker (number ∙ same); maker = λ same. other.maker (number ∙ same) } in
      elim (from_picked-more block_placed_by there.block events trade there.is_placed) [
        | inl old ↦ there-before setup events fit trade fit_after first x there old (not_concerned there.block own)
        | inr new ↦ absurd (let no : ⊥ = cc in no)
      ]

  rests_on : (x : RestingBlock) → IsOther x.number → IsIn x (blocks_of events first) → IsIn x (blocks_of after first)
  rests_on x other i =
      let there = from-book setup events fit first x i in
      let number = ap (λ (r : RestingBlock). r.number) there.is in
      let own : IsOther there.block.name.number = record { taker = λ same. other.taker (number ∙ same); maker = λ same. other.maker (number ∙ same) } in
      there-after setup events fit trade fit_after first x there (not_concerned there.block own)

  abbrev beside : List RestingBlock → List RestingBlock
  beside book = without_both book leg.taker.number leg.maker.number

  beside-strict : (book : List RestingBlock) → IsStrictlyInOrder number_cmp book → IsStrictlyInOrder number_cmp (beside book)
  beside-strict book strict = in_order-filter number_cmp _ (without book leg.taker.number) (in_order-filter number_cmp _ book strict)

  moved : (a b : List RestingBlock) → ((x : RestingBlock) → IsOther x.number → IsIn x a → IsIn x b) → (x : RestingBlock) → IsIn x (beside a) → IsIn x (beside b)
  moved a b there x i =
      let behind = from_without leg.maker.number x (without a leg.taker.number) i in
      let was = from_without leg.taker.number x a behind.0 in
      in_without leg.maker.number x (without b leg.taker.number)
      (in_without leg.taker.number x b (there x (record { taker = was.1; maker = behind.1 }) was.0) was.1) behind.1

  beside-same : beside (blocks_of after first) ≡ beside (blocks_of events first)
  beside-same =
      one_list number_cmp number_total number-ties (beside (blocks_of after first)) (beside (blocks_of events first))
      (beside-strict (blocks_of after first) (book-strict setup after fit_after first)) (beside-strict (blocks_of events first) (book-strict setup events fit first))
      (moved (blocks_of after first) (blocks_of events first) rested) (moved (blocks_of events first) (blocks_of after first) rests_on)

pub others_stay : LegsLeaveTheOtherBlocks
others_stay setup events first last leg fit fits = beside-same setup events fit first last leg fits

pub closed_gone : ClosedBlocksAreGone
closed_gone setup events name fit closed =
    let book : List RestingBlock = blocks_of events name.hour in
    let strict = book-strict setup events fit name.hour in
    one_list number_cmp number_total number-ties (without book name.number) book (in_order-filter number_cmp _ book strict) strict
    (λ x i. (from_without name.number x book i).0)
    (λ x i. in_without name.number x book i (λ same.
    let there = from-book setup events fit name.hour x i in
    let hour = rests-named setup events fit name.hour there.block there.is_placed there.rests in
    let one : there.block.name ≡ name = same_names there.block.name name hour (sym (ap (λ (r : RestingBlock). r.number) there.is) ∙ same) in
    true≢false (sym (open-rests events name.hour there.block there.rests) ∙ ap (is_open events) one ∙ closed)))
