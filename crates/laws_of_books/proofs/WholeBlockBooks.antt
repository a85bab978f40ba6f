-- What the book of an hour is: the market's lines, what is found in it, how many blocks rest in it,
-- and that the events of the hour alone make it.
use Rattle.std.proofs.Common.{◌≡◌, ◌∙◌, inl, ℕ, ◌≤◌, ◌==◌, ◌&&◌, Bool, true, List, [], ◌∷◌, Option, Some, None, eq-eqb, eqb-true, filter, length, map, nat_eq, option_map, refl, sym, ap, subst, if◌then◌else◌, arith}
use Rattle.std.proofs.lemmas.Bool.{and_from, and_parts, true≢false}
use Rattle.std.proofs.lemmas.List.{length-map}
use mathlib.Core.List.{map-map}
use Rattle.std.specs.List.{filter_map}
use Rattle.order_kinds.specs.declared.order.OrderName.{OrderName}
use Rattle.order_kinds.specs.declared.side.Side.{Side}
use Rattle.order_kinds.specs.Same.{same_name}
use Rattle.zone_graph.specs.InOrder.{in_order}
use Rattle.zone_graph.specs.Route.{AreDifferent, IsIn}
use Rattle.zone_graph.proofs.Finding.{find-IsIn, find-none, from_find}
use Rattle.zone_graph.proofs.Membership.{IsIn-filter, IsIn-map, from_filter, from_map}
use Rattle.zone_graph.proofs.Routes.{few_zones}
use Rattle.block_book.specs.declared.block.RestingBlock.{RestingBlock}
use Rattle.block_book.specs.Blocks.{number_cmp}
use Rattle.block_book.specs.Book.{IsBook, block_of, line_of}
use Rattle.block_book.proofs.Lists.{Differ, find-block}
use Rattle.block_book.proofs.Lists as lists
use Rattle.market_model.specs.declared.event.Event.{Event}
use Rattle.market_model.specs.declared.event.Event.TheVariants as event
use Rattle.market_model.specs.declared.setup.Setup.{Setup}
use Rattle.market_model.specs.Blocks.{block_line, block_priority_cmp, block_stands_in, standing_block}
use Rattle.market_model.specs.History.{of_hour}
use Rattle.market_model.specs.Orders.{PlacedBlock, block_placed_by, blocks_placed, enters_block, is_open, last_place, name_given, open_block, open_names}
use Rattle.market_model.specs.WellFormed.{FitAfter}
use Rattle.laws_of_market.proofs.Members.{IsIn-filter_map, from_filter_map, from_in_order}
use Rattle.laws_of_market.proofs.Names.{names-once}
use Rattle.laws_of_market.proofs.Tests.{same_name-eq, same_name-refl}
use Rattle.laws_of_market.proofs.Unique.{one_block}
use Rattle.laws_of_market.proofs.LocalBlocks.{block-named}
use Rattle.laws_of_market.proofs.NamedByHour.{AreNamedByHour}
use Rattle.laws_of_market.proofs.Restrict.{filter-filter, filter-same, map-same}
use Rattle.laws_of_market.proofs.LocalStates.{Agree, blocks_placed-agree, is_open-agree, left-agree}
use Rattle.laws_of_market.proofs.OfHours.{one-agrees}
use Rattle.laws_of_books.proofs.LineOrders.{same_names}
use Rattle.laws_of_books.specs.BlocksOf.{blocks_of, caller_of, record_of, resting_block, rests_from}
use Rattle.laws_of_books.proofs.BlocksElsewhere.{named, open-rests, starts}
use Rattle.laws_of_books.proofs.BlocksKept.{resting-same}
use Rattle.laws_of_books.proofs.MarketBooks.{block_line-are, book-differ, book-strict, from-book, line-are, lined, rests-named, to-book}

pub book-begins : (first : ℕ) → blocks_of [] first ≡ []
unfolding blocks_of
book-begins first = refl

-- ---- what is found

module _ (setup : Setup) (events : List Event) (fit : FitAfter setup [] events) where
  -- an open block is the one of its name
  open_block-is : (block : PlacedBlock) → IsIn block (blocks_placed events) → is_open events block.name ≡ true → open_block events block.name ≡ Some block
  open_block-is block there opened =
      let passes : (same_name block.name block.name && is_open events block.name) ≡ true =
      and_from (same_name block.name block.name) (is_open events block.name) (same_name-refl block.name) opened in
      let found = find-IsIn (λ (b : PlacedBlock). same_name b.name block.name && is_open events b.name) (blocks_placed events) block there passes in
      let is = from_find (λ (b : PlacedBlock). same_name b.name block.name && is_open events b.name) found.0 (blocks_placed events) found.1 in
      let named = (and_parts (same_name found.0.name block.name) (is_open events found.0.name) is.1).0 in
      let one = one_block events (names-once setup events fit) found.0 block is.0 there (same_name-eq found.0.name block.name named) in
      found.1 ∙ ap Some one

  -- so its caller is found by its name
  caller-is : (block : PlacedBlock) → IsIn block (blocks_placed events) → is_open events block.name ≡ true → caller_of events block.name ≡ block.caller
  caller-is block there opened = rw (open_block-is block there opened) refl

  record-is : (block : PlacedBlock) → IsIn block (blocks_placed events) → is_open events block.name ≡ true
      → resting_block events block ≡ record_of events (standing_block events block)
  record-is block there opened = ap (λ c. record (resting_block events block) { caller = c }) (sym (caller-is block there opened))

  -- the lines of the book are the market's
  pub lines-are : (first last : ℕ) (side : Side) → line_of (blocks_of events first) last side ≡ map (record_of events) (block_line events first last side)
  lines-are first last side =
      line-are setup events fit first last side
      ∙ map-same (resting_block events) (λ block. record_of events (standing_block events block)) (lined events first last side) (λ block i.
      let cmp = (λ (a b : PlacedBlock). block_priority_cmp side (standing_block events a) (standing_block events b)) in
      let stands : PlacedBlock → Bool = block_stands_in events first last side in
      let there = from_filter stands block (blocks_placed events) (from_in_order cmp block (filter stands (blocks_placed events)) i) in
      record-is block there.0 (opened first last side block there.1))
      ∙ sym (map-map (record_of events) (standing_block events) (lined events first last side))
      ∙ ap (map (record_of events)) (sym (block_line-are events first last side))
    where
      opened : (first last : ℕ) (side : Side) (block : PlacedBlock) → block_stands_in events first last side block ≡ true → is_open events block.name ≡ true
      opened first last side block stands =
          let both = and_parts (is_open events block.name && ((block.order.first == first) && (block.order.last == last))) _ stands in
          (and_parts (is_open events block.name) ((block.order.first == first) && (block.order.last == last)) both.0).0

  -- where no block of a name is open none is found
  none-found : (name : OrderName) → open_block events name ≡ None → block_of (blocks_of events name.hour) name.number ≡ None
  none-found name none = lists.find-none name.number (blocks_of events name.hour) (λ other i. λ same.
      let there = from-book setup events fit name.hour other i in
      let hours = rests-named setup events fit name.hour there.block there.is_placed there.rests in
      let is : there.block.name ≡ name = same_names there.block.name name hours (sym (ap (λ (r : RestingBlock). r.number) there.is) ∙ same) in
      let named : same_name there.block.name name ≡ true = subst (λ n. same_name there.block.name n ≡ true) is (same_name-refl there.block.name) in
      true≢false (sym (and_from (same_name there.block.name name) (is_open events there.block.name) named (open-rests events name.hour there.block there.rests))
      ∙ find-none (λ block. same_name block.name name && is_open events block.name) (blocks_placed events) none there.block there.is_placed))

  pub block-found : (name : OrderName) → block_of (blocks_of events name.hour) name.number ≡ option_map (resting_block events) (open_block events name)
  block-found name = go (open_block events name) refl
    where
      go : (o : Option PlacedBlock) → open_block events name ≡ o
          → block_of (blocks_of events name.hour) name.number ≡ option_map (resting_block events) o
      go None is = none-found name is
      go (Some block) is =
          let found = from_find (λ (b : PlacedBlock). same_name b.name name && is_open events b.name) block (blocks_placed events) is in
          let both = and_parts (same_name block.name name) (is_open events block.name) found.1 in
          let one : block.name ≡ name = same_name-eq block.name name both.0 in
          let hour : block.order.first ≡ name.hour = sym (named setup events fit block found.0) ∙ ap (λ (n : OrderName). n.hour) one in
          find-block name.number (resting_block events block) (blocks_of events name.hour) (book-differ setup events fit name.hour)
          (to-book setup events fit name.hour block found.0
          (and_from (is_open events block.name) (block.order.first == name.hour) both.1 (eq-eqb block.order.first name.hour hour)))
          (ap (λ (n : OrderName). n.number) one)

-- ---- the events of the hour alone

module _ (first : ℕ) (a b : List Event) (agree : Agree (first ∷ []) a b) where
  abbrev in_hour : PlacedBlock → Bool
  in_hour block = nat_eq block.name.hour first

  starts-named : (events : List Event) → AreNamedByHour events → (block : PlacedBlock) → IsIn block (blocks_placed events) → rests_from events first block ≡ true
      → block.name.hour ≡ first
  starts-named events are block i rests = (block-named events are block i).named ∙ starts events first block rests

  rests-agree : filter (rests_from a first) (blocks_placed a) ≡ filter (rests_from b first) (blocks_placed b)
  rests-agree =
      sym (filter-filter (rests_from a first) in_hour (blocks_placed a) (λ block i s. eq-eqb block.name.hour first (starts-named a agree.named_a block i s)))
      ∙ filter-same (rests_from a first) (rests_from b first) (filter in_hour (blocks_placed a)) (λ block i.
      let hour = eqb-true block.name.hour first (from_filter in_hour block (blocks_placed a) i).1 in
      ap (λ t. t && (block.order.first == first)) (is_open-agree (first ∷ []) a b agree block.name (inl hour)))
      ∙ ap (filter (rests_from b first)) (blocks_placed-agree (first ∷ []) a b agree first (inl refl))
      ∙ filter-filter (rests_from b first) in_hour (blocks_placed b) (λ block i s. eq-eqb block.name.hour first (starts-named b agree.named_b block i s))

  book-agree : blocks_of a first ≡ blocks_of b first
  unfolding blocks_of
  book-agree =
      ap (in_order number_cmp) (map-same (resting_block a) (resting_block b) (filter (rests_from a first) (blocks_placed a)) (λ block i.
      let there = from_filter (rests_from a first) block (blocks_placed a) i in
      let hour = starts-named a agree.named_a block there.0 there.1 in
      sym (resting-same a b block (sym (left-agree (first ∷ []) a b agree block.name (inl hour)))
      (ap (last_place (enters_block block)) (sym (agree.same block.name.hour (inl hour))))))
      ∙ ap (map (resting_block b)) rests-agree)

pub hour-book : (setup : Setup) (events : List Event) → FitAfter setup [] events → (first : ℕ) → blocks_of (of_hour first events) first ≡ blocks_of events first
hour-book setup events fit first = book-agree first (of_hour first events) events (one-agrees setup events fit first)

-- ---- how many blocks rest

-- the event that enters a block gives its name to its hour
name-given : (e : Event) (block : PlacedBlock) (hour : ℕ) → block_placed_by e ≡ Some block → block.name.hour ≡ hour → name_given hour e ≡ Some block.name
name-given (event.EnteredBlock name caller entering) block hour is of_hour =
    let same : record { name = name; caller = caller; order = entering } ≡ block = cc in
    let own : name.hour ≡ hour = ap (λ (b : PlacedBlock). b.name.hour) same ∙ of_hour in
    ap (λ b. if b then Some name else None) (eq-eqb name.hour hour own) ∙ ap (λ (b : PlacedBlock). Some b.name) same
name-given _ block hour is of_hour = absurd (cc)

-- numbers that differ
numbers-differ : (xs : List RestingBlock) → Differ xs → AreDifferent (map (λ (b : RestingBlock). b.number) xs)
numbers-differ [] differ = tt
numbers-differ (x ∷ xs) differ = (
  λ i. let y = from_map (λ (b : RestingBlock). b.number) x.number xs i in differ.0 y.0 y.1 y.2,
  numbers-differ xs differ.1,
)

module _ (setup : Setup) (events : List Event) (fit : FitAfter setup [] events) (first : ℕ) where
  abbrev number : RestingBlock → ℕ
  number block = block.number

  abbrev given : OrderName → ℕ
  given name = name.number

  -- each block that rests is open under a name of the hour
  rests-open : (n : ℕ) → IsIn n (map number (blocks_of events first)) → IsIn n (map given (open_names events first))
  rests-open n i =
      let found = from_map number n (blocks_of events first) i in
      let there = from-book setup events fit first found.0 found.1 in
      let hour = rests-named setup events fit first there.block there.is_placed there.rests in
      let entry = from_filter_map block_placed_by there.block events there.is_placed in
      let named : IsIn there.block.name (filter_map (name_given first) events) =
      IsIn-filter_map (name_given first) entry.0 there.block.name events entry.1 (name-given entry.0 there.block first entry.2 hour) in
      let opened : IsIn there.block.name (open_names events first) =
      IsIn-filter (is_open events) there.block.name (filter_map (name_given first) events) named (open-rests events first there.block there.rests) in
      subst (λ m. IsIn m (map given (open_names events first))) (sym (found.2 ∙ ap number there.is))
      (IsIn-map given there.block.name (open_names events first) opened)

  -- no more rest than are open
  pub few-in_book : length (blocks_of events first) ≤ length (open_names events first)
  few-in_book =
      let few = few_zones (map number (blocks_of events first)) (map given (open_names events first))
      (numbers-differ (blocks_of events first) (book-differ setup events fit first)) rests-open in
      let own = length-map (blocks_of events first) number in
      let names = length-map (open_names events first) given in
      omega (arith, few, own, names)

  pub book-is_book : length (open_names events first) ≤ 4096 → IsBook (blocks_of events first)
  book-is_book few = record { ascending = book-strict setup events fit first; few = let most = few-in_book in omega (arith, few, most) }
