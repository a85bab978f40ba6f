-- The blocks that a price crosses stand at the front of their line.
use Rattle.std.proofs.Common.{◌≡◌, ◌∙◌, ℤ, ◌≤ℤ◌, ◌<ℤ◌, ℕ, Bool, true, false, cond, List, [], ◌∷◌, filter, Some, None, int_le, int_cmp, is_lt, Ordering, if◌then◌else◌, refl, sym, ap, inl, inr, arith}
use Rattle.std.proofs.lemmas.Bool.{true≢false}
use Rattle.std.proofs.lemmas.Int.{ints}
use Rattle.std.specs.Cmp.{int_ranks}
use Rattle.std.specs.Ordering.{MatchOrdering, nat_cmp, ordering_then}
use Rattle.std.specs.declared.cmp.Ordering.TheVariants.{Less, Equal, Greater}
use Rattle.order_kinds.specs.declared.side.Side.{Side}
use Rattle.order_kinds.specs.declared.side.Side.TheVariants.{Buy, Sell}
use Rattle.order_kinds.specs.Side.{crosses, opposite}
use Rattle.zone_graph.specs.InOrder.{IsStrictlyInOrder}
use Rattle.zone_graph.specs.Route.{IsIn}
use Rattle.block_book.specs.declared.block.RestingBlock.{RestingBlock}
use Rattle.block_book.specs.Blocks.{block_cmp}
use Rattle.block_book.specs.Book.{after_in, first_of, has_number}
use Rattle.block_match.specs.Meeting.{is_crossed}
use Rattle.block_match.specs.Walking.{if_crossed}

-- an order of two numbers, and then by something else, says of them
first-least : (r later : Ordering) (x y : ℤ) → MatchOrdering r (x <ℤ y) (x ≡ y) (y <ℤ x) → is_lt (ordering_then r later) ≡ true → x ≤ℤ y
first-least Less later x y m h = omega (arith, ints, m)
first-least Equal later x y m h = omega (arith, ints, m)
first-least Greater later x y m h = absurd (true≢false (sym h))

below : (a b top : ℤ) → a ≤ℤ b → int_le b top ≡ true → int_le a top ≡ true
below a b top least h = grind (arith, least, h)

above : (a b low : ℤ) → b ≤ℤ a → int_le low b ≡ true → int_le low a ≡ true
above a b low most h = grind (arith, most, h)

-- what goes before a block that is crossed is crossed too
ahead-crossed : (own x y : RestingBlock) → is_lt (block_cmp (opposite own.side) x y) ≡ true → is_crossed own y ≡ true → is_crossed own x ≡ true
ahead-crossed own x y = go own.side
  where
    go : (side : Side) → is_lt (block_cmp (opposite side) x y) ≡ true → crosses side own.price y.price ≡ true → crosses side own.price x.price ≡ true
    go Buy before h =
        below x.price.0 y.price.0 own.price.0
        (first-least (int_cmp x.price.0 y.price.0) (ordering_then (nat_cmp x.moment y.moment) (nat_cmp x.number y.number)) x.price.0 y.price.0 (int_ranks x.price.0 y.price.0) before) h
    go Sell before h =
        above x.price.0 y.price.0 own.price.0
        (first-least (int_cmp y.price.0 x.price.0) (ordering_then (nat_cmp x.moment y.moment) (nat_cmp x.number y.number)) y.price.0 x.price.0 (int_ranks y.price.0 x.price.0) before) h

-- none of some blocks is crossed
abbrev NoneIsCrossed : RestingBlock → List RestingBlock → Type 0
NoneIsCrossed own line = (y : RestingBlock) → IsIn y line → is_crossed own y ≡ false

behind-uncrossed : (own x : RestingBlock) (line : List RestingBlock) → IsStrictlyInOrder (block_cmp (opposite own.side)) (x ∷ line) → is_crossed own x ≡ false → NoneIsCrossed own line
behind-uncrossed own x line strict not_x y i = go (is_crossed own y) refl
  where
    go : (b : Bool) → is_crossed own y ≡ b → b ≡ false
    go false e = refl
    go true e = absurd (true≢false (sym (ahead-crossed own x y (strict.0 y i) e) ∙ not_x))

none-filtered : (own : RestingBlock) (line : List RestingBlock) → NoneIsCrossed own line → filter (is_crossed own) line ≡ []
none-filtered own [] none = refl
none-filtered own (x ∷ line) none = rw (none x (inl refl)) (none-filtered own line (λ y i. none y (inr i)))

none-first : (own : RestingBlock) (line : List RestingBlock) → NoneIsCrossed own line → if_crossed own (first_of line) ≡ None
none-first own [] none = refl
none-first own (x ∷ line) none = ap (λ b. if b then Some x else None) (none x (inl refl))

none-after : (own : RestingBlock) (number : ℕ) (line : List RestingBlock) → NoneIsCrossed own line → if_crossed own (after_in number line) ≡ None
none-after own number [] none = refl
none-after own number (x ∷ line) none = go (none-after own number line (λ y i. none y (inr i))) (has_number number x)
  where
    go : if_crossed own (after_in number line) ≡ None → (b : Bool) → if_crossed own (if b then first_of line else after_in number line) ≡ None
    go rest true = none-first own line (λ y i. none y (inr i))
    go rest false = rest

module _ (own : RestingBlock) where
  -- the first of those that are crossed is the first of the line, if it is crossed
  pub crossed-first : (line : List RestingBlock) → IsStrictlyInOrder (block_cmp (opposite own.side)) line
      → first_of (filter (is_crossed own) line) ≡ if_crossed own (first_of line)
  crossed-first [] strict = refl
  crossed-first (x ∷ line) strict = go (is_crossed own x) refl
    where
      go : (b : Bool) → is_crossed own x ≡ b → first_of (cond b (x ∷ filter (is_crossed own) line) (filter (is_crossed own) line)) ≡ cond b (Some x) None
      go true e = refl
      go false e = ap first_of (none-filtered own line (behind-uncrossed own x line strict e))

  -- and the one behind a block is the one behind it in the line, if it is crossed
  pub crossed-after : (number : ℕ) (line : List RestingBlock) → IsStrictlyInOrder (block_cmp (opposite own.side)) line
      → after_in number (filter (is_crossed own) line) ≡ if_crossed own (after_in number line)
  crossed-after number [] strict = refl
  crossed-after number (x ∷ line) strict = go (crossed-first line strict.1) (crossed-after number line strict.1) (is_crossed own x) refl
    where
      go : first_of (filter (is_crossed own) line) ≡ if_crossed own (first_of line)
          → after_in number (filter (is_crossed own) line) ≡ if_crossed own (after_in number line)
          → (b : Bool) → is_crossed own x ≡ b → after_in number (cond b (x ∷ filter (is_crossed own) line) (filter (is_crossed own) line))
          ≡ if_crossed own (cond (has_number number x) (first_of line) (after_in number line))
      go first rest true e = by (has_number number x)
        where
          by : (b : Bool) → cond b (first_of (filter (is_crossed own) line)) (after_in number (filter (is_crossed own) line))
              ≡ if_crossed own (cond b (first_of line) (after_in number line))
          by true = first
          by false = rest
      go first rest false e =
          let none = behind-uncrossed own x line strict e in
          ap (after_in number) (none-filtered own line none) ∙ sym (later (has_number number x) none)
        where
          later : (b : Bool) → NoneIsCrossed own line → if_crossed own (cond b (first_of line) (after_in number line)) ≡ None
          later true none = none-first own line none
          later false none = none-after own number line none
