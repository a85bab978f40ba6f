-- An event that is nothing to the blocks that start in an hour leaves their book as it was.
use Rattle.std.proofs.Common.{◌≡◌, ◌≢◌, ◌∙◌, ◌⊎◌, inl, inr, ℕ, ◌≤◌, ◌==◌, true, false, List, [], Some, eqb-true, refl, sym, ap, subst, arith}
use Rattle.std.proofs.lemmas.Bool.{and_parts}
use Rattle.order_kinds.specs.declared.order.OrderName.{OrderName}
use Rattle.zone_graph.specs.Route.{IsIn}
use Rattle.market_model.specs.declared.event.Event.{Event}
use Rattle.market_model.specs.declared.event.Event.TheVariants as event
use Rattle.market_model.specs.declared.setup.Setup.{Setup}
use Rattle.market_model.specs.History.{and_then}
use Rattle.market_model.specs.Orders.{PlacedBlock, block_placed_by, blocks_placed, is_open}
use Rattle.market_model.specs.WellFormed.{FitAfter, Fits}
use Rattle.laws_of_market.proofs.Members.{from_filter_map}
use Rattle.laws_of_market.proofs.Names.{NamesOnce, block_name-new, names-once, order_name-new, times_entered}
use Rattle.laws_of_market.proofs.Placed.{all_are_sound, from_picked-more}
use Rattle.laws_of_market.proofs.Repeats.{fit-more}
use Rattle.laws_of_market.proofs.Unique.{enters-block_placed, one_block, order_is_no_block, times-some}
use Rattle.laws_of_market.proofs.Wholes.{names-other, other_name}
use Rattle.laws_of_books.proofs.Untouched.{concerns}
use Rattle.laws_of_books.specs.BlockLaws.{IsElsewhere, IsOfOrder}
use Rattle.laws_of_books.specs.BlocksOf.{blocks_of, rests_from}
use Rattle.laws_of_books.proofs.BlocksKept.{book-by, there-after, there-before}
use Rattle.laws_of_books.proofs.MarketBooks.{book-strict, from-book}

-- a name that is new is no block's
pub new-other : (events : List Event) (name : OrderName) → times_entered events name ≡ 0 → (block : PlacedBlock) → IsIn block (blocks_placed events)
    → name ≢ block.name
new-other events name new block there same =
    let entry = from_filter_map block_placed_by block events there in
    let some : 1 ≤ times_entered events block.name = times-some block.name entry.0 events entry.1 (enters-block_placed block entry.0 entry.2) in
    let none : times_entered events block.name ≡ 0 = subst (λ n. times_entered events n ≡ 0) same new in
    absurd (omega (arith, some, none))

-- a block that rests from an hour starts in it
pub starts : (events : List Event) (first : ℕ) (block : PlacedBlock) → rests_from events first block ≡ true → block.order.first ≡ first
starts events first block rests = eqb-true block.order.first first (and_parts (is_open events block.name) (block.order.first == first) rests).1

-- and is open
pub open-rests : (events : List Event) (first : ℕ) (block : PlacedBlock) → rests_from events first block ≡ true → is_open events block.name ≡ true
open-rests events first block rests = (and_parts (is_open events block.name) (block.order.first == first) rests).0

module _ (setup : Setup) (events : List Event) (fit : FitAfter setup [] events) where
  once : NamesOnce events
  once = names-once setup events fit

  -- a block is named by its first hour
  pub named : (block : PlacedBlock) → IsIn block (blocks_placed events) → block.name.hour ≡ block.order.first
  named block there = ((all_are_sound setup events fit).blocks block there).named

  -- a name of another hour, or of an order, is not that of a block of an hour
  not_named : (first : ℕ) (name : OrderName) (block : PlacedBlock) → IsIn block (blocks_placed events) → block.order.first ≡ first
      → (name.hour ≢ first) ⊎ IsOfOrder events name → name ≢ block.name
  not_named first name block there of_first other same = elim other [
    | inl apart ↦ apart (ap (λ (n : OrderName). n.hour) same ∙ named block there ∙ of_first)
    | inr order ↦ order_is_no_block events once order.0 block order.1 there (order.2 ∙ same)
  ]

  -- a block that trades in periods from one hour starts in no other
  not_traded : (first from : ℕ) (name : OrderName) (traded block : PlacedBlock) → IsIn traded (blocks_placed events) → traded.name ≡ name
      → traded.order.first ≡ from → from ≢ first → IsIn block (blocks_placed events) → block.order.first ≡ first → name ≢ block.name
  not_traded first from name traded block traded_there is_named of_period apart there of_first same =
      let one : traded ≡ block = one_block events once traded block traded_there there (is_named ∙ same) in
      apart (sym of_period ∙ ap (λ (b : PlacedBlock). b.order.first) one ∙ of_first)

  -- no block of the hour is concerned
  not_concerned : (first : ℕ) (e : Event) → Fits setup events e → IsElsewhere events first e → (block : PlacedBlock) → IsIn block (blocks_placed events)
      → block.order.first ≡ first
      → concerns block.name e ≡ false
  not_concerned first (event.Entered name caller entering) fits elsewhere block there of_first =
      other_name name block.name (new-other events name (order_name-new setup events name caller entering once fits) block there)
  not_concerned first (event.EnteredBlock name caller entering) fits elsewhere block there of_first =
      other_name name block.name (new-other events name (block_name-new setup events name caller entering once fits) block there)
  not_concerned first (event.Leg contract leg) fits elsewhere block there of_first =
      names-other leg block.name
      (λ same. order_is_no_block events once fits.taker block fits.taker_open.is_placed there (fits.taker_open.is_named ∙ same))
      (λ same. order_is_no_block events once fits.maker block fits.maker_open.is_placed there (fits.maker_open.is_named ∙ same))
  not_concerned first (event.BlockLeg from last leg) fits elsewhere block there of_first =
      names-other leg block.name
      (not_traded first from leg.taker fits.taker block fits.taker_open.is_placed fits.taker_open.is_named fits.taker_first elsewhere there of_first)
      (not_traded first from leg.maker fits.maker block fits.maker_open.is_placed fits.maker_open.is_named fits.maker_first elsewhere there of_first)
  not_concerned first (event.Withdrawn name lots) fits elsewhere block there of_first =
      other_name name block.name (not_named first name block there of_first elsewhere)
  not_concerned first (event.Reduced name by) fits elsewhere block there of_first =
      other_name name block.name (λ same. order_is_no_block events once fits.order block fits.order_open.is_placed there (fits.order_open.is_named ∙ same))
  not_concerned first _ fits elsewhere block there of_first = refl

  -- none of it enters
  not_entered : (first : ℕ) (e : Event) → IsElsewhere events first e → (block : PlacedBlock) → block_placed_by e ≡ Some block → block.order.first ≢ first
  not_entered first (event.EnteredBlock name caller entering) elsewhere block is of_first =
      let same : record { name = name; caller = caller; order = entering } ≡ block = cc in
      elsewhere (ap (λ (b : PlacedBlock). b.order.first) same ∙ of_first)
  not_entered first _ elsewhere block is of_first = cc

  -- so the book stays
  pub book-elsewhere : (first : ℕ) (e : Event) → Fits setup events e → IsElsewhere events first e → blocks_of (and_then events e) first ≡ blocks_of events first
  book-elsewhere first e fits elsewhere =
      book-by setup (and_then events e) fit_after first (blocks_of events first) (book-strict setup events fit first)
      (λ x there.
      let of_first = starts (and_then events e) first there.block there.rests in
      elim (from_picked-more block_placed_by there.block events e there.is_placed) [
        | inl old ↦ there-before setup events fit e fit_after first x there old (not_concerned first e fits elsewhere there.block old of_first)
        | inr new ↦ absurd (not_entered first e elsewhere there.block new of_first)
      ])
      (λ x i.
      let there = from-book setup events fit first x i in
      there-after setup events fit e fit_after first x there (not_concerned first e fits elsewhere there.block there.is_placed (starts events first there.block there.rests)))
    where
      fit_after : FitAfter setup [] (and_then events e)
      fit_after = fit-more setup events e fit fits
