-- The book of the open blocks of a history that start in an hour: their numbers differ, and its lines
-- are the market's.
use Rattle.std.proofs.Common.{◌≡◌, ◌≢◌, ◌∙◌, inl, inr, ℕ, ◌≤◌, ◌==◌, ◌&&◌, Bool, true, false, List, [], ◌∷◌, filter, fold, map, Option, Some, None, refl, sym, ap, subst, eqb-true, arith}
use Rattle.std.proofs.lemmas.Bool.{and_parts, true≢false}
use Rattle.std.specs.List.{cons_option}
use Rattle.std.specs.declared.cmp.Ordering.{Ordering}
use Rattle.order_kinds.specs.declared.order.OrderName.{OrderName}
use Rattle.order_kinds.specs.declared.side.Side.{Side}
use Rattle.order_kinds.specs.Same.{same_side}
use Rattle.zone_graph.specs.InOrder.{IsStrictlyInOrder, in_order, put_in_order}
use Rattle.zone_graph.specs.Route.{IsIn}
use Rattle.zone_graph.proofs.InOrder.{put_in_order-map}
use Rattle.zone_graph.proofs.Membership.{IsIn-filter, IsIn-map, from_filter, from_map}
use Rattle.block_book.specs.declared.block.RestingBlock.{RestingBlock}
use Rattle.block_book.specs.Blocks.{block_cmp, number_cmp}
use Rattle.block_book.specs.Book.{is_of, line_of}
use Rattle.block_book.specs.Priority.{block_total, number_total}
use Rattle.block_book.proofs.Lists.{Differ, ascending-differ, block-ties, differ-filter, number-ties, one_list, strict-in_order}
use Rattle.market_model.specs.declared.event.Event.{Event}
use Rattle.market_model.specs.declared.setup.Setup.{Setup}
use Rattle.market_model.specs.Blocks.{block_line, block_priority_cmp, block_stands_in, standing_block}
use Rattle.market_model.specs.Orders.{PlacedBlock, block_placed_by, blocks_placed, is_open}
use Rattle.market_model.specs.WellFormed.{FitAfter}
use Rattle.laws_of_market.proofs.Members.{IsIn-in_order, from_filter_map, from_in_order}
use Rattle.laws_of_market.proofs.Names.{enters_as, names-once, times_entered}
use Rattle.laws_of_market.proofs.Placed.{all_are_sound}
use Rattle.laws_of_market.proofs.Unique.{enters-block_placed, times-cons, times-some}
use Rattle.laws_of_books.specs.BlocksOf.{blocks_of, rests_from, resting_block}

-- no two blocks have one name
abbrev NamesDiffer : List PlacedBlock → Type 0
NamesDiffer [] = Unit {0}
NamesDiffer (x ∷ xs) = ((y : PlacedBlock) → IsIn y xs → x.name ≢ y.name) × NamesDiffer xs

placed-differ : (events : List Event) → ((name : OrderName) → times_entered events name ≤ 1) → NamesDiffer (blocks_placed events)
placed-differ [] once = tt
placed-differ (e ∷ events) once =
    go (placed-differ events (λ name. let most = rw (times-cons e events name) at (once name) in omega arith)) (block_placed_by e) refl
  where
    go : NamesDiffer (blocks_placed events) → (o : Option PlacedBlock) → block_placed_by e ≡ o → NamesDiffer (cons_option o (blocks_placed events))
    go rest None is = rest
    go rest (Some block) is = (
      λ y i. λ same.
          let x = from_filter_map block_placed_by y events i in
          let again = times-some y.name x.0 events x.1 (enters-block_placed y x.0 x.2) in
          let here : enters_as y.name e ≡ true = subst (λ n. enters_as n e ≡ true) same (enters-block_placed block e is) in
          let most = rw (times-cons e events y.name, here) at (once y.name) in omega arith,
      rest,
    )

-- of one hour, different names have different numbers
differ-resting : (events : List Event) (first : ℕ) (p : PlacedBlock → Bool) (xs : List PlacedBlock) → NamesDiffer xs
    → ((x : PlacedBlock) → IsIn x xs → p x ≡ true → x.name.hour ≡ first) → Differ (map (resting_block events) (filter p xs))
differ-resting events first p [] differ named = tt
differ-resting events first p (x ∷ xs) differ named =
    go (differ-resting events first p xs differ.1 (λ y i e. named y (inr i) e)) (p x) refl
  where
    go : Differ (map (resting_block events) (filter p xs)) → (b : Bool) → p x ≡ b → Differ (map (resting_block events) (filter p (x ∷ xs)))
    go rest false e = rw e rest
    go rest true e = rw e (
      λ y i. λ same.
          let z = from_map (resting_block events) y (filter p xs) i in
          let kept = from_filter p z.0 xs z.1 in
          let hour : x.name.hour ≡ z.0.name.hour = named x (inl refl) e ∙ sym (named z.0 (inr kept.0) kept.1) in
          let number : x.name.number ≡ z.0.name.number = same ∙ ap (λ (b : RestingBlock). b.number) z.2 in
          differ.0 z.0 kept.0 (λ k. record { hour = hour k; number = number k }),
      rest,
    )

-- what is put in order is made as before
fold-map : {X Y : Type 0} (f : X → Y) (cmp : X → X → Ordering) (cmp_too : Y → Y → Ordering) → ((a b : X) → cmp_too (f a) (f b) ≡ cmp a b) → (ys xs : List X)
    → map f (fold (put_in_order cmp) ys xs) ≡ fold (put_in_order cmp_too) (map f ys) (map f xs)
fold-map f cmp cmp_too same ys [] = refl
fold-map f cmp cmp_too same ys (x ∷ xs) =
    fold-map f cmp cmp_too same (put_in_order cmp ys x) xs
    ∙ ap (λ zs. fold (put_in_order cmp_too) zs (map f xs)) (put_in_order-map f cmp cmp_too same ys x)

ordered-map : {X Y : Type 0} (f : X → Y) (cmp : X → X → Ordering) (cmp_too : Y → Y → Ordering) → ((a b : X) → cmp_too (f a) (f b) ≡ cmp a b) → (xs : List X)
    → map f (in_order cmp xs) ≡ in_order cmp_too (map f xs)
ordered-map f cmp cmp_too same xs = fold-map f cmp cmp_too same [] xs

-- two books that have the same blocks of a period and side have the same line of them
pub line-same : (a b : List RestingBlock) (last : ℕ) (side : Side) → Differ a → Differ b
    → ((x : RestingBlock) → is_of last side x ≡ true → IsIn x a → IsIn x b) → ((x : RestingBlock) → is_of last side x ≡ true → IsIn x b → IsIn x a)
    → line_of a last side ≡ line_of b last side
line-same a b last side differ differ_too there back =
    one_list (block_cmp side) (block_total side) (block-ties side) (line_of a last side) (line_of b last side)
    (strict-in_order (block_cmp side) (block_total side) (block-ties side) (filter (is_of last side) a) (differ-filter (is_of last side) a differ))
    (strict-in_order (block_cmp side) (block_total side) (block-ties side) (filter (is_of last side) b) (differ-filter (is_of last side) b differ_too))
    (λ x i. moved a b there x i) (λ x i. moved b a back x i)
  where
    moved : (c d : List RestingBlock) → ((x : RestingBlock) → is_of last side x ≡ true → IsIn x c → IsIn x d) → (x : RestingBlock)
        → IsIn x (line_of c last side) → IsIn x (line_of d last side)
    moved c d over x i =
        let was = from_filter (is_of last side) x c (from_in_order (block_cmp side) x (filter (is_of last side) c) i) in
        IsIn-in_order (block_cmp side) x (filter (is_of last side) d) (IsIn-filter (is_of last side) x d (over x was.1 was.0) was.1)

-- tests that are joined in two ways
joined : (opened first last side : Bool) → (opened && first) ≡ true → (last && side) ≡ true → ((opened && (first && last)) && side) ≡ true
joined true true true side a b = b
joined true true false side a b = absurd (true≢false (sym b))
joined true false last side a b = absurd (true≢false (sym a))
joined false first last side a b = absurd (true≢false (sym a))

parted : (opened first last side : Bool) → ((opened && (first && last)) && side) ≡ true → ((opened && first) ≡ true) × ((last && side) ≡ true)
parted true true true side e = (refl, e)
parted true true false side e = absurd (true≢false (sym e))
parted true false last side e = absurd (true≢false (sym e))
parted false first last side e = absurd (true≢false (sym e))

-- the blocks of a line, as they were entered, in priority
abbrev pub lined : List Event → (first last : ℕ) → Side → List PlacedBlock
lined events first last side =
    in_order (λ a b. block_priority_cmp side (standing_block events a) (standing_block events b)) (filter (block_stands_in events first last side) (blocks_placed events))

pub block_line-are : (events : List Event) (first last : ℕ) (side : Side) → block_line events first last side ≡ map (standing_block events) (lined events first last side)
unfolding block_line
block_line-are events first last side =
    sym (ordered-map (standing_block events) (λ a b. block_priority_cmp side (standing_block events a) (standing_block events b)) (block_priority_cmp side) (λ a b. refl)
    (filter (block_stands_in events first last side) (blocks_placed events)))

module _ (setup : Setup) (events : List Event) (fit : FitAfter setup [] events) (first : ℕ) where
  abbrev made : List RestingBlock
  made = map (resting_block events) (filter (rests_from events first) (blocks_placed events))

  -- a block that rests is named by its first hour
  pub rests-named : (block : PlacedBlock) → IsIn block (blocks_placed events) → rests_from events first block ≡ true → block.name.hour ≡ first
  rests-named block i rests =
      ((all_are_sound setup events fit).blocks block i).named
      ∙ eqb-true block.order.first first (and_parts (is_open events block.name) (block.order.first == first) rests).1

  differ_made : Differ made
  differ_made = differ-resting events first (rests_from events first) (blocks_placed events) (placed-differ events (names-once setup events fit).once) rests-named

  -- it stands by ascending number, no number twice
  pub book-strict : IsStrictlyInOrder number_cmp (blocks_of events first)
  unfolding blocks_of
  book-strict = strict-in_order number_cmp number_total number-ties made differ_made

  pub book-differ : Differ (blocks_of events first)
  book-differ = ascending-differ (blocks_of events first) book-strict

  -- what rests in the book is an open block that starts in the hour
  pub record RestsFrom (found : RestingBlock) : Type 0 where
    pub block : PlacedBlock
    pub is_placed : IsIn block (blocks_placed events)
    pub rests : rests_from events first block ≡ true
    pub is : found ≡ resting_block events block

  pub from-book : (found : RestingBlock) → IsIn found (blocks_of events first) → RestsFrom found
  unfolding blocks_of
  from-book found i =
      let listed = from_map (resting_block events) found (filter (rests_from events first) (blocks_placed events)) (from_in_order number_cmp found made i) in
      let kept = from_filter (rests_from events first) listed.0 (blocks_placed events) listed.1 in
      record { block = listed.0; is_placed = kept.0; rests = kept.1; is = listed.2 }

  pub to-book : (block : PlacedBlock) → IsIn block (blocks_placed events) → rests_from events first block ≡ true → IsIn (resting_block events block) (blocks_of events first)
  unfolding blocks_of
  to-book block i rests =
      IsIn-in_order number_cmp (resting_block events block) made
      (IsIn-map (resting_block events) block (filter (rests_from events first) (blocks_placed events)) (IsIn-filter (rests_from events first) block (blocks_placed events) i rests))

  module _ (last : ℕ) (side : Side) where
    abbrev stands : PlacedBlock → Bool
    stands = block_stands_in events first last side

    abbrev ranked : List RestingBlock
    ranked = map (resting_block events) (filter stands (blocks_placed events))

    stands-parts : (block : PlacedBlock) → stands block ≡ true → (rests_from events first block ≡ true) × (is_of last side (resting_block events block) ≡ true)
    stands-parts block e = parted (is_open events block.name) (block.order.first == first) (block.order.last == last) (same_side block.order.side side) e

    differ_ranked : Differ ranked
    differ_ranked =
        differ-resting events first stands (blocks_placed events) (placed-differ events (names-once setup events fit).once)
        (λ x i e. rests-named x i (stands-parts x e).0)

    line-ranked : line_of (blocks_of events first) last side ≡ in_order (block_cmp side) ranked
    line-ranked =
        one_list (block_cmp side) (block_total side) (block-ties side) (line_of (blocks_of events first) last side) (in_order (block_cmp side) ranked)
        (strict-in_order (block_cmp side) (block_total side) (block-ties side) (filter (is_of last side) (blocks_of events first)) (differ-filter (is_of last side) (blocks_of events first) book-differ))
        (strict-in_order (block_cmp side) (block_total side) (block-ties side) ranked differ_ranked)
        (λ x i.
        let was = from_filter (is_of last side) x (blocks_of events first) (from_in_order (block_cmp side) x (filter (is_of last side) (blocks_of events first)) i) in
        let found = from-book x was.0 in
        let of_line : is_of last side (resting_block events found.block) ≡ true = ap (is_of last side) (sym found.is) ∙ was.1 in
        let passes : stands found.block ≡ true =
        joined (is_open events found.block.name) (found.block.order.first == first) (found.block.order.last == last) (same_side found.block.order.side side) found.rests of_line in
        IsIn-in_order (block_cmp side) x ranked
        (subst (λ b. IsIn b ranked) (sym found.is)
        (IsIn-map (resting_block events) found.block (filter stands (blocks_placed events)) (IsIn-filter stands found.block (blocks_placed events) found.is_placed passes))))
        (λ y i.
        let listed = from_map (resting_block events) y (filter stands (blocks_placed events)) (from_in_order (block_cmp side) y ranked i) in
        let kept = from_filter stands listed.0 (blocks_placed events) listed.1 in
        let parts = stands-parts listed.0 kept.1 in
        IsIn-in_order (block_cmp side) y (filter (is_of last side) (blocks_of events first))
        (subst (λ b. IsIn b (filter (is_of last side) (blocks_of events first))) (sym listed.2)
        (IsIn-filter (is_of last side) (resting_block events listed.0) (blocks_of events first) (to-book listed.0 kept.0 parts.0) parts.1)))

    -- the line of the book has the blocks of the market's line
    pub line-are : line_of (blocks_of events first) last side ≡ map (resting_block events) (lined events first last side)
    line-are =
        line-ranked
        ∙ sym (ordered-map (resting_block events) (λ a b. block_priority_cmp side (standing_block events a) (standing_block events b)) (block_cmp side) (λ a b. refl)
        (filter stands (blocks_placed events)))
