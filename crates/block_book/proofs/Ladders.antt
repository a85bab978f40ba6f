-- What the lines of blocks are, and what becomes of them where a block joins or leaves.
use Rattle.std.proofs.Common.{◌≡◌, ◌≢◌, ◌∙◌, ℕ, zero, suc, ◌+◌, ◌<◌, nat_eq, Bool, true, false, cond, List, [], ◌∷◌, ◌++◌, filter, length, set, sum_by, replicate, Contains, Option, Some, None, IsSome, refl, sym, ap, subst, arith, append_assoc, if◌then◌else◌, eq-eqb, eqb-true}
use Rattle.std.proofs.lemmas.Bool.{le-ltb, lt-ltb, ne_eqb, true≢false}
use Rattle.std.proofs.lemmas.List.{get_or-set_same, get_or-set_other, length-set, length-replicate, set-get_or}
use Rattle.std.proofs.lemmas.List.Elements.{filter-append}
use Rattle.std.proofs.lemmas.Nat.{mod_below}
use Rattle.std.specs.List.{cons_option}
use Rattle.std.specs.Option.{ForSome, IfSome, option_eq}
use Rattle.std.specs.Ordering.{is_lt}
use Rattle.order_kinds.specs.declared.side.Side.{Side}
use Rattle.order_kinds.specs.declared.side.Side.TheVariants.{Buy, Sell}
use Rattle.order_pool.specs.Lines.{line_at, first_in, StandsIn, StandsBetween, StandOnce, IsInserted, IsNext, IsRemoved}
use Rattle.order_pool.specs.Rings.{AreRings}
use Rattle.order_pool.proofs.Chains.{Misses, contains_between, misses_absent}
use Rattle.order_pool.proofs.MoveLemmas.{between_in}
use Rattle.order_pool.proofs.OnceLemmas.{misses_contains, once_front}
use Rattle.zone_graph.specs.InOrder.{IsStrictlyInOrder}
use Rattle.zone_graph.specs.Route.{IsIn}
use Rattle.zone_graph.proofs.InOrder.{in_order-filter}
use Rattle.zone_graph.proofs.Membership.{IsIn-filter, from_filter}
use Rattle.record_pool.specs.Keyed.{AreKeyed, held_at}
use Rattle.record_pool.specs.Lines.{AreLines}
use Rattle.record_pool.specs.Ranked.{IsSpot, records_of}
use Rattle.record_pool.proofs.Counts.{held_count-most, held_count-take}
use Rattle.record_pool.proofs.KeyedLemmas.{held-within}
use Rattle.record_pool.proofs.LineLemmas.{AreLines-none, AreLines-put, AreLines-take, free-absent, from_records, in_records, line-through, records-other, spot-inserted, spot-stands}
use Rattle.block_book.specs.declared.block.RestingBlock.{RestingBlock}
use Rattle.block_book.specs.declared.ladder.Ladder.{Ladder}
use Rattle.block_book.specs.declared.line_key.Grain.{Grain}
use Rattle.block_book.specs.declared.line_key.LineKey.{LineKey}
use Rattle.block_book.specs.Blocks.{block_cmp, number_of}
use Rattle.block_book.specs.Book.{after_in, first_of, is_of}
use Rattle.block_book.specs.Inside.{Belongs, IsLadder, book_in, first_from, has_key, in_half, key_by, key_ring, line_by, places_from, side_by, spread}
use Rattle.block_book.specs.Priority.{block_total}
use Rattle.block_book.proofs.Held.{differ, from_book, in_book, none-held}
use Rattle.block_book.proofs.Lists.{after-through, and-both, apart, block-ties, differ-filter, from_ordered, in_ordered, is-is_of, is_of-last, is_of-side, one_list, strict-in_order}

pub set-twice : {X : Type 0} (xs : List X) (k : ℕ) (a b : X) → set (set xs k a) k b ≡ set xs k b
set-twice [] k a b = refl
set-twice (x ∷ xs) zero a b = refl
set-twice (x ∷ xs) (suc k) a b = ap (λ ys. x ∷ ys) (set-twice xs k a b)

-- a place holds a block again
held-again : (places : List (Option RestingBlock)) (place : ℕ) (block : RestingBlock) → held_at places place ≡ Some block → set (set places place None) place (Some block) ≡ places
held-again places place block holds =
    set-twice places place None (Some block) ∙ ap (set places place) (sym holds) ∙ set-get_or places place None

-- the block of a place that holds one
held-some : (places : List (Option RestingBlock)) (place : ℕ) → IsSome (held_at places place) → (block : RestingBlock) × (held_at places place ≡ Some block)
held-some places place some = go (held_at places place) refl some
  where
    go : (o : Option RestingBlock) → held_at places place ≡ o → IsSome o → (block : RestingBlock) × (held_at places place ≡ Some block)
    go None e none = absurd (cc)
    go (Some block) e _ = (block, e)

-- a block has a key exactly where it is the block's
same_lots : (a b : Option ℕ) → option_eq nat_eq a b ≡ true → a ≡ b
same_lots None None e = refl
same_lots None (Some b) e = absurd (true≢false (sym e))
same_lots (Some a) None e = absurd (true≢false (sym e))
same_lots (Some a) (Some b) e = ap Some (eqb-true a b e)

own_lots : (a : Option ℕ) → option_eq nat_eq a a ≡ true
own_lots None = refl
own_lots (Some a) = eq-eqb a a refl

module _ (grain : Grain) (key : LineKey) (block : RestingBlock) where
  has_key-is : has_key grain key block ≡ true → key_by grain block ≡ key
  has_key-is e =
      let both = and-both (option_eq nat_eq (key_by grain block).quantity key.quantity) (is_of key.last key.side block) e in
      let key_of : ℕ → Side → Option ℕ → LineKey = λ last side quantity. record { last = last; side = side; quantity = quantity } in
      ap (λ l. key_of l block.side (key_by grain block).quantity) (is_of-last key.last key.side block both.1)
      ∙ ap (λ s. key_of key.last s (key_by grain block).quantity) (is_of-side key.last key.side block both.1)
      ∙ ap (key_of key.last key.side) (same_lots (key_by grain block).quantity key.quantity both.0)

  is-has_key : key_by grain block ≡ key → has_key grain key block ≡ true
  is-has_key e =
      subst (λ k. has_key grain k block ≡ true) e
      (rw (own_lots (key_by grain block).quantity, is-is_of block.last block.side block refl refl) refl)

  has_no-key : key_by grain block ≢ key → has_key grain key block ≡ false
  has_no-key differs = go (has_key grain key block) refl
    where
      go : (b : Bool) → has_key grain key block ≡ b → b ≡ false
      go true e = absurd (differs (has_key-is e))
      go false e = refl

-- the ring of a key is one of its side
half-side : (side : Side) (ring : ℕ) → ring < 2048 → side_by (in_half side ring) ≡ side
half-side Buy ring low = rw (lt-ltb ring 2048 low) refl
half-side Sell ring low = rw (le-ltb (2048 + ring) 2048 (omega arith)) refl

half-low : (side : Side) (ring : ℕ) → ring < 2048 → in_half side ring < 4096
half-low Buy ring low = omega (arith, low)
half-low Sell ring low = omega (arith, low)

spread-low : (last : ℕ) (quantity : Option ℕ) → spread last quantity < 2048
spread-low last quantity = mod_below _ 2048 (omega arith)

ring-side : (key : LineKey) → side_by (key_ring key) ≡ key.side
ring-side key = half-side key.side (spread key.last key.quantity) (spread-low key.last key.quantity)

-- the places of a ring from one on, and from the next
module _ (rings : List (List ℕ)) (once : StandOnce rings) (k : ℕ) where
  from-between : (front : List ℕ) (place : ℕ) (back : List ℕ) → StandsBetween rings k front place back → places_from (Some place) (line_at rings k) ≡ place ∷ back
  from-between front place back stands = ap (places_from (Some place)) stands.1 ∙ go front (once_front rings once k place front back stands)
    where
      go : (f : List ℕ) → Misses place f → places_from (Some place) (f ++ place ∷ back) ≡ place ∷ back
      go [] misses = rw (eq-eqb place place refl) refl
      go (first ∷ f) misses = rw (ne_eqb first place misses.0) (go f misses.1)

  module _ (front : List ℕ) (place : ℕ) (back : List ℕ) (stands : StandsBetween rings k front place back) where
    after-it : (next : ℕ) (rest : List ℕ) → back ≡ next ∷ rest → StandsBetween rings k (front ++ place ∷ []) next rest
    after-it next rest is = (stands.0, stands.1 ∙ ap (λ b. front ++ place ∷ b) is ∙ sym (append_assoc front (place ∷ []) (next ∷ rest)))

    from-next : (next : Option ℕ) → next ≡ first_in back → places_from next (line_at rings k) ≡ back
    from-next next is = ap (λ o. places_from o (line_at rings k)) is ∙ go back refl
      where
        go : (b : List ℕ) → back ≡ b → places_from (first_in b) (line_at rings k) ≡ b
        go [] e = refl
        go (at ∷ rest) e = from-between (front ++ place ∷ []) at rest (after-it at rest e)

    next-stands : (next : Option ℕ) → next ≡ first_in back → ForSome next (StandsIn rings k)
    next-stands next is = λ at some. go at back refl (sym some ∙ is)
      where
        go : (at : ℕ) (b : List ℕ) → back ≡ b → Some at ≡ first_in b → StandsIn rings k at
        go at [] e some = absurd (cc)
        go at (other ∷ rest) e some =
            let same : at ≡ other = cc in
            let there = after-it other rest e in
            subst (StandsIn rings k) (sym same) (stands.0, subst (λ l. Contains l other) (sym there.1) (contains_between other (front ++ place ∷ []) rest))

from-first : (ring : List ℕ) → places_from (first_in ring) ring ≡ ring
from-first [] = refl
from-first (place ∷ ring) = rw (eq-eqb place place refl) refl

module _ (places : List (Option RestingBlock)) (ladder : Ladder) (sound : IsLadder places ladder) where
  -- a block stands in the ring of its key
  own_ring : (place : ℕ) (block : RestingBlock) → held_at places place ≡ Some block → StandsIn ladder.rings (key_ring (key_by ladder.grain block)) place
  own_ring place block holds =
      let there = sound.are.stands place block holds in
      let own = sound.are.live there.0 place there.1 in
      let same : own.0 ≡ block = (let a = own.1 in cc) in
      subst (λ r. StandsIn ladder.rings r place) (sym own.2 ∙ ap (λ b. key_ring (key_by ladder.grain b)) same) there.1

  ring-within : (key : LineKey) → key_ring key < length ladder.rings
  ring-within key = omega (arith, half-low key.side (spread key.last key.quantity) (spread-low key.last key.quantity), sound.many)

  pub ring-live : (ring place : ℕ) → StandsIn ladder.rings ring place → IsSome (held_at places place)
  ring-live ring place stands = subst IsSome (sym (sound.are.live ring place stands).1) refl

  -- of the blocks of its ring those of a key are the line of the key
  line-is : AreKeyed number_of places → (key : LineKey) → filter (has_key ladder.grain key) (records_of places (line_at ladder.rings (key_ring key))) ≡ line_by ladder.grain (book_in places) key
  line-is keyed key =
      let p = has_key ladder.grain key in
      let records = records_of places (line_at ladder.rings (key_ring key)) in
      one_list (block_cmp key.side) (block_total key.side) (block-ties key.side) (filter p records) (line_by ladder.grain (book_in places) key)
      (in_order-filter (block_cmp key.side) p records (subst (λ s. IsStrictlyInOrder (block_cmp s) records) (ring-side key) (sound.are.sorted (key_ring key) (ring-within key))))
      (strict-in_order (block_cmp key.side) (block_total key.side) (block-ties key.side) (filter p (book_in places)) (differ-filter p (book_in places) (differ places keyed)))
      (λ block i.
      let there = from_filter p block records i in
      let at = from_records places block (line_at ladder.rings (key_ring key)) there.0 in
      in_ordered (block_cmp key.side) block (filter p (book_in places)) (IsIn-filter p block (book_in places) (in_book places at.0 block at.2) there.1))
      (λ block i.
      let there = from_filter p block (book_in places) (from_ordered (block_cmp key.side) block (filter p (book_in places)) i) in
      let at = from_book places block there.0 in
      let stands = subst (λ k. StandsIn ladder.rings (key_ring k) at.0) (has_key-is ladder.grain key block there.1) (own_ring at.0 block at.1) in
      IsIn-filter p block records (in_records places block at.0 (line_at ladder.rings (key_ring key)) stands.1 at.1) there.1)

  -- the first of a line is met from the ring's first place on
  module _ (key : LineKey) (from : Option ℕ) (is : from ≡ first_in (line_at ladder.rings (key_ring key))) where
    pub first-met : AreKeyed number_of places → first_from ladder places key from ≡ first_of (line_by ladder.grain (book_in places) key)
    first-met keyed =
        let ring = line_at ladder.rings (key_ring key) in
        ap (λ l. first_of (filter (has_key ladder.grain key) (records_of places l))) (ap (λ o. places_from o ring) is ∙ from-first ring) ∙ ap first_of (line-is keyed key)

  -- a walk along a ring is at a place, and goes on to the next
  module _ (key : LineKey) (place : ℕ) (stands : StandsIn ladder.rings (key_ring key) place) where
    cut : (front : List ℕ) × (back : List ℕ) × StandsBetween ladder.rings (key_ring key) front place back
    cut = between_in ladder.rings (key_ring key) place stands

    module _ (next : Option ℕ) (next_is : IsNext ladder.rings place next) where
      on : places_from next (line_at ladder.rings (key_ring key)) ≡ cut.1
      on = from-next ladder.rings sound.are.rings.once (key_ring key) cut.0 place cut.1 cut.2 next (next_is (key_ring key) cut.0 cut.1 cut.2)

      pub walk-next : ForSome next (StandsIn ladder.rings (key_ring key))
      walk-next = next-stands ladder.rings sound.are.rings.once (key_ring key) cut.0 place cut.1 cut.2 next (next_is (key_ring key) cut.0 cut.1 cut.2)

    module _ (at : Option ℕ) (is : at ≡ Some place) where
      here : places_from at (line_at ladder.rings (key_ring key)) ≡ place ∷ cut.1
      here = ap (λ o. places_from o (line_at ladder.rings (key_ring key))) is ∙ from-between ladder.rings sound.are.rings.once (key_ring key) cut.0 place cut.1 cut.2

      met : (block : RestingBlock) → held_at places place ≡ Some block → (b : Bool) → has_key ladder.grain key block ≡ b
          → first_from ladder places key at ≡ (if b then Some block else first_of (filter (has_key ladder.grain key) (records_of places cut.1)))
      met block holds b e =
          ap (λ l. first_of (filter (has_key ladder.grain key) (records_of places l))) here
          ∙ ap (λ o. first_of (filter (has_key ladder.grain key) (cons_option o (records_of places cut.1)))) holds
          ∙ go b e
        where
          go : (b : Bool) → has_key ladder.grain key block ≡ b
              → first_of (filter (has_key ladder.grain key) (block ∷ records_of places cut.1)) ≡ (if b then Some block else first_of (filter (has_key ladder.grain key) (records_of places cut.1)))
          go true e = rw e refl
          go false e = rw e refl

      pub walk-found : (block : RestingBlock) → held_at places place ≡ Some block → key_by ladder.grain block ≡ key → first_from ladder places key at ≡ Some block
      walk-found block holds same = met block holds true (is-has_key ladder.grain key block same)

      module _ (next : Option ℕ) (next_is : IsNext ladder.rings place next) where
        pub walk-less : length (places_from next (line_at ladder.rings (key_ring key))) < length (places_from at (line_at ladder.rings (key_ring key)))
        walk-less = omega (arith, ap length (on next next_is), ap length here)

        pub walk-passed : (block : RestingBlock) → held_at places place ≡ Some block → key_by ladder.grain block ≢ key → first_from ladder places key at ≡ first_from ladder places key next
        walk-passed block holds differs =
            met block holds false (has_no-key ladder.grain key block differs)
            ∙ ap (λ l. first_of (filter (has_key ladder.grain key) (records_of places l))) (sym (on next next_is))

  -- what stands behind a block in its line
  module _ (place : ℕ) (block : RestingBlock) (holds : held_at places place ≡ Some block) (key : LineKey) (is : key ≡ key_by ladder.grain block) (next : Option ℕ) (next_is : IsNext ladder.rings place next) where
    here_stands : StandsIn ladder.rings (key_ring key) place
    here_stands = subst (λ k. StandsIn ladder.rings (key_ring k) place) (sym is) (own_ring place block holds)

    pub behind-stands : ForSome next (StandsIn ladder.rings (key_ring key))
    behind-stands = walk-next key place here_stands next next_is

    behind-line : AreKeyed number_of places → after_in block.number (line_by ladder.grain (book_in places) key) ≡ first_from ladder places key next
    behind-line keyed =
        let p = has_key ladder.grain key in
        let parts = cut key place here_stands in
        let through : records_of places (line_at ladder.rings (key_ring key)) ≡ records_of places parts.0 ++ block ∷ records_of places parts.1 =
        line-through block_cmp side_by (Belongs ladder.grain) places ladder.rings sound.are (key_ring key) place block holds parts.0 parts.1 parts.2 in
        let line : line_by ladder.grain (book_in places) key ≡ filter p (records_of places parts.0) ++ block ∷ filter p (records_of places parts.1) =
        sym (line-is keyed key) ∙ ap (filter p) through ∙ filter-append p (records_of places parts.0) (block ∷ records_of places parts.1)
        ∙ ap (λ b. filter p (records_of places parts.0) ++ cond b (block ∷ filter p (records_of places parts.1)) (filter p (records_of places parts.1))) (is-has_key ladder.grain key block (sym is)) in
        ap (after_in block.number) line
        ∙ after-through (filter p (records_of places parts.0)) (filter p (records_of places parts.1)) block (λ y i. λ same.
        let at = from_records places y parts.0 (from_filter p y (records_of places parts.0) i).0 in
        let is_here : at.0 ≡ place = keyed.once at.0 place y block at.2 holds same in
        misses_contains place at.0 parts.0 (once_front ladder.rings sound.are.rings.once (key_ring key) place parts.0 parts.1 parts.2) at.1 is_here)
        ∙ ap (λ l. first_of (filter p (records_of places l))) (sym (on key place here_stands next next_is))

    pub behind-met : AreKeyed number_of places → IfSome (held_at places place) (λ it. first_from ladder places key next ≡ after_in it.number (line_by ladder.grain (book_in places) (key_by ladder.grain it)))
    behind-met keyed = rw holds (sym (behind-line keyed) ∙ ap (λ k. after_in block.number (line_by ladder.grain (book_in places) k)) is)

-- a block joins its line
module _ (places : List (Option RestingBlock)) (ladder : Ladder) (place : ℕ) (sound : IsLadder (set places place None) ladder) (keyed : AreKeyed number_of places)
    (block : RestingBlock) (holds : held_at places place ≡ Some block) (k : ℕ) (is : k ≡ key_ring (key_by ladder.grain block)) where
  low : place < length places
  low = held-within places place block holds

  free : held_at (set places place None) place ≡ None
  free = get_or-set_same places place None None low

  pub join-absent : (ring : ℕ) → StandsIn ladder.rings ring place → ⊥
  join-absent = free-absent block_cmp side_by (Belongs ladder.grain) (set places place None) ladder.rings sound.are place free

  pub join-room : sum_by length ladder.rings < 4096
  join-room = omega (arith, sound.are.total, held_count-take places place block holds, held_count-most places, keyed.size)

  -- what stands in the rings is held besides
  pub join-held : (at : ℕ) → StandsIn ladder.rings k at → IsSome (held_at places at)
  join-held at stands =
      let there = sound.are.live k at stands in
      subst IsSome (sym (sym (get_or-set_other places place at None None (λ same. join-absent k (subst (StandsIn ladder.rings k) same stands))) ∙ there.1)) refl

  join-within : k < length ladder.rings
  join-within = subst (λ r. r < length ladder.rings) (sym is) (ring-within (set places place None) ladder sound (key_by ladder.grain block))

  misses : Misses place (line_at ladder.rings k)
  misses = misses_absent place (line_at ladder.rings k) (λ has. join-absent k (join-within, has))

  same_records : (line : List ℕ) → Misses place line → records_of (set places place None) line ≡ records_of places line
  same_records line apart_from = records-other places place None line apart_from

  side_here : side_by k ≡ block.side
  side_here = ap side_by is ∙ ring-side (key_by ladder.grain block)

  pub join-sorted : IsStrictlyInOrder (block_cmp block.side) (records_of places (line_at ladder.rings k))
  join-sorted =
      subst (λ s. IsStrictlyInOrder (block_cmp s) (records_of places (line_at ladder.rings k))) side_here
      (subst (IsStrictlyInOrder (block_cmp (side_by k))) (same_records (line_at ladder.rings k) misses)
      (sound.are.sorted k join-within))

  module _ (before : Option ℕ) (spot : IsSpot (block_cmp block.side) places (line_at ladder.rings k) block before) where
    pub join-before : (after : ℕ) → before ≡ Some after → StandsIn ladder.rings k after
    join-before = spot-stands (block_cmp block.side) places ladder.rings k block before join-within spot

    parts : Misses place spot.front × Misses place spot.back
    parts = go spot.front (subst (Misses place) spot.whole misses)
      where
        go : (front : List ℕ) → Misses place (front ++ spot.back) → Misses place front × Misses place spot.back
        go [] apart_from = (tt, apart_from)
        go (at ∷ front) apart_from = let rest = go front apart_from.1 in ((apart_from.0, rest.0), rest.1)

    spot_less : IsSpot (block_cmp (side_by k)) (set places place None) (line_at ladder.rings k) block before
    spot_less = record {
      front = spot.front;
      back = spot.back;
      whole = spot.whole;
      at = spot.at;
      ahead = λ other i. ap (λ s. is_lt (block_cmp s block other)) side_here ∙ spot.ahead other (subst (IsIn other) (same_records spot.front parts.0) i);
      behind = λ other i. ap (λ s. is_lt (block_cmp s block other)) side_here ∙ spot.behind other (subst (IsIn other) (same_records spot.back parts.1) i);
    }

    module _ (rings : List (List ℕ)) (inserted : IsInserted ladder.rings rings k before place) (are_rings : AreRings rings) where
      rings_are : rings ≡ set ladder.rings k (spot.front ++ place ∷ spot.back)
      rings_are = spot-inserted (block_cmp block.side) places ladder.rings rings k place block before join-within spot inserted

      pub join-sound : IsLadder places (record { grain = ladder.grain; rings = rings })
      unfolding spot_less
      join-sound = record {
        many = ap length rings_are ∙ length-set ladder.rings k (spot.front ++ place ∷ spot.back) ∙ sound.many;
        are =
            let whole = spot.front ++ place ∷ spot.back in
            let joined = AreLines-put block_cmp side_by (Belongs ladder.grain) (set places place None) ladder.rings sound.are k place block before join-within
            (let nothing : Option RestingBlock = None in omega (arith, low, length-set places place nothing)) free spot_less (block_total (side_by k)) (subst AreRings rings_are are_rings) (sym is)
            (λ other i not_before.
            let at = from_records (set places place None) other (line_at ladder.rings k) i in
            let elsewhere : at.0 ≢ place = λ same. join-absent k (join-within, subst (Contains (line_at ladder.rings k)) same at.1) in
            let held_there : held_at places at.0 ≡ Some other = sym (get_or-set_other places place at.0 None None elsewhere) ∙ at.2 in
            apart (block_cmp (side_by k)) (block_total (side_by k)) (block-ties (side_by k)) block other
            (λ same. elsewhere (keyed.once at.0 place other block held_there holds (sym same))) not_before) in
            subst (λ r. AreLines block_cmp side_by (Belongs ladder.grain) places r) (sym rings_are)
            (subst (λ p. AreLines block_cmp side_by (Belongs ladder.grain) p (set ladder.rings k whole)) (held-again places place block holds) joined);
      }

-- a block leaves its line
pub leave-sound : (places : List (Option RestingBlock)) (ladder : Ladder) → IsLadder places ladder → (place : ℕ) → IsSome (held_at places place) → (rings : List (List ℕ)) → IsRemoved ladder.rings rings place → AreRings rings
    → IsLadder (set places place None) (record { grain = ladder.grain; rings = rings })
leave-sound places ladder sound place some rings removed are_rings =
    let held = held-some places place some in
    let there = sound.are.stands place held.0 held.1 in
    let cut = between_in ladder.rings there.0 place there.1 in
    let less = removed there.0 cut.0 cut.1 cut.2 in
    record {
      many = ap length less ∙ length-set ladder.rings there.0 (cut.0 ++ cut.1) ∙ sound.many;
      are =
          subst (λ r. AreLines block_cmp side_by (Belongs ladder.grain) (set places place None) r) (sym less)
          (AreLines-take block_cmp side_by (Belongs ladder.grain) places ladder.rings sound.are there.0 place held.0 held.1 cut.0 cut.1 cut.2 (subst AreRings less are_rings));
    }

-- lines in which nothing stands
pub none-ladder : (grain : Grain) (rings : List (List ℕ)) → rings ≡ replicate 4096 [] → AreRings rings → IsLadder (replicate 4096 None) (record { grain = grain; rings = rings })
none-ladder grain rings empty are_rings =
    let none : List ℕ = [] in
    record {
      many = ap length empty ∙ length-replicate 4096 none;
      are = AreLines-none block_cmp side_by (Belongs grain) (replicate 4096 None) rings 4096 none-held empty are_rings;
    }
