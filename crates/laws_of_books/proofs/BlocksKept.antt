-- What an event leaves of a block that it does not concern, and a book told from the blocks in it.
use Rattle.std.proofs.Common.{◌≡◌, ◌∙◌, ℕ, ◌+◌, ◌==◌, ◌&&◌, Bool, true, false, List, [], ◌∷◌, length, nat_lt, refl, sym, ap, subst, if◌then◌else◌}
use Rattle.zone_graph.specs.InOrder.{IsStrictlyInOrder}
use Rattle.zone_graph.specs.Route.{IsIn}
use Rattle.block_book.specs.declared.block.RestingBlock.{RestingBlock}
use Rattle.block_book.specs.Blocks.{number_cmp}
use Rattle.block_book.specs.Priority.{number_total}
use Rattle.block_book.proofs.Lists.{number-ties, one_list}
use Rattle.market_model.specs.declared.event.Event.{Event}
use Rattle.market_model.specs.declared.event.Event.TheVariants as event
use Rattle.market_model.specs.declared.setup.Setup.{Setup}
use Rattle.market_model.specs.History.{and_then, of_hour, touches}
use Rattle.market_model.specs.Orders.{PlacedBlock, block_moment, block_placed_by, blocks_placed, enters_block, last_place, left}
use Rattle.market_model.specs.WellFormed.{FitAfter}
use Rattle.laws_of_market.proofs.Placed.{picked-stays}
use Rattle.laws_of_market.proofs.LocalMoments.{block_moment-more, hour-same}
use Rattle.laws_of_books.proofs.Untouched.{concerns, left-kept}
use Rattle.laws_of_books.specs.BlocksOf.{blocks_of, resting_block}
use Rattle.laws_of_books.proofs.MarketBooks.{RestsFrom, book-strict, from-book, to-book}

-- a book is the list by ascending number of the blocks that rest
pub book-by : (setup : Setup) (events : List Event) (fit : FitAfter setup [] events) (first : ℕ) (xs : List RestingBlock) → IsStrictlyInOrder number_cmp xs
    → ((x : RestingBlock) → RestsFrom setup events fit first x → IsIn x xs) → ((x : RestingBlock) → IsIn x xs → IsIn x (blocks_of events first))
    → blocks_of events first ≡ xs
book-by setup events fit first xs strict there back =
    one_list number_cmp number_total number-ties (blocks_of events first) xs (book-strict setup events fit first) strict
    (λ x i. there x (from-book setup events fit first x i)) back

-- a block of which as much is left, with its moment, is recorded as before
pub resting-same : (a b : List Event) (block : PlacedBlock) → left b block.name ≡ left a block.name → block_moment b block ≡ block_moment a block
    → resting_block b block ≡ resting_block a block
resting-same a b block lots moment = λ i. record {
  number = block.name.number;
  caller = block.caller;
  zone = block.order.zone;
  side = block.order.side;
  price = block.order.price;
  quantity = lots i;
  last = block.order.last;
  moment = moment i;
}

-- so it rests in the one book as in the other
pub stays-in : (setup : Setup) (a b : List Event) (fit_a : FitAfter setup [] a) (fit_b : FitAfter setup [] b) (first : ℕ) (found : RestingBlock)
    (there : RestsFrom setup a fit_a first found) → IsIn there.block (blocks_placed b) → left b there.block.name ≡ left a there.block.name
    → block_moment b there.block ≡ block_moment a there.block → IsIn found (blocks_of b first)
stays-in setup a b fit_a fit_b first found there placed lots moment =
    subst (λ r. IsIn r (blocks_of b first)) (resting-same a b there.block lots moment ∙ sym there.is)
    (to-book setup b fit_b first there.block placed (ap (λ n. nat_lt 0 n && (there.block.order.first == first)) lots ∙ there.rests))

-- an event that does not concern a block gives it no moment
enters-none : (block : PlacedBlock) (before : List Event) (e : Event) → concerns block.name e ≡ false → enters_block block before e ≡ false
enters-none block before (event.EnteredBlock given caller entering) other = other
enters-none block before _ other = refl

-- a moment that is not given anew
pub moment-kept : (events : List Event) (e : Event) (block : PlacedBlock) → enters_block block (of_hour block.name.hour events) e ≡ false
    → block_moment (and_then events e) block ≡ block_moment events block
moment-kept events e block none = go (touches block.name.hour e) refl
  where
    go : (t : Bool) → touches block.name.hour e ≡ t → block_moment (and_then events e) block ≡ block_moment events block
    go true t =
        block_moment-more block.name.hour events e block t refl
        ∙ ap (λ b. if b then length (of_hour block.name.hour events) + 1 else block_moment events block) none
    go false t = ap (last_place (enters_block block)) (hour-same block.name.hour events e t)

module _ (setup : Setup) (events : List Event) (fit : FitAfter setup [] events) (e : Event) (fit_more : FitAfter setup [] (and_then events e)) (first : ℕ)
    (found : RestingBlock) where
  -- a block that rests and is not concerned rests on
  pub there-after : (there : RestsFrom setup events fit first found) → concerns there.block.name e ≡ false → IsIn found (blocks_of (and_then events e) first)
  there-after there other =
      stays-in setup events (and_then events e) fit fit_more first found there
      (picked-stays block_placed_by there.block events (e ∷ []) there.is_placed)
      (left-kept events e there.block.name other) (moment-kept events e there.block (enters-none there.block (of_hour there.block.name.hour events) e other))

  -- and rested before, if it was there
  pub there-before : (there : RestsFrom setup (and_then events e) fit_more first found) → IsIn there.block (blocks_placed events)
      → concerns there.block.name e ≡ false → IsIn found (blocks_of events first)
  there-before there was other =
      stays-in setup (and_then events e) events fit_more fit first found there was
      (sym (left-kept events e there.block.name other)) (sym (moment-kept events e there.block (enters-none there.block (of_hour there.block.name.hour events) e other)))
