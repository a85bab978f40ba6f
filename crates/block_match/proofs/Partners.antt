-- The partner of a block, found along the line of its own quantity as far as prices cross.
use Rattle.std.proofs.Common.{◌≡◌, ◌∙◌, ℕ, ◌==◌, ◌&&◌, Bool, true, false, List, [], ◌∷◌, filter, find, Some, if◌then◌else◌, inl, inr, refl, sym, ap, subst, eqb-true}
use Rattle.std.proofs.lemmas.Bool.{true≢false}
use Rattle.std.proofs.lemmas.List.Sorted.{ranks_by}
use Rattle.std.specs.Ordering.{is_lt}
use Rattle.order_kinds.specs.declared.side.Side.{Side}
use Rattle.order_kinds.specs.Side.{opposite}
use Rattle.zone_graph.specs.declared.route.Arc.{Arc}
use Rattle.zone_graph.specs.Graph.{Graph}
use Rattle.zone_graph.specs.InOrder.{IsStrictlyInOrder}
use Rattle.zone_graph.specs.Route.{IsIn}
use Rattle.zone_graph.proofs.Finding.{find-filter}
use Rattle.zone_graph.proofs.InOrder.{in_order-filter}
use Rattle.zone_graph.proofs.Membership.{from_filter}
use Rattle.block_book.specs.declared.block.RestingBlock.{RestingBlock}
use Rattle.block_book.specs.Blocks.{block_cmp}
use Rattle.block_book.specs.Book.{IsBook, block_of, has_quantity, is_of, line_of, quantity_line}
use Rattle.block_book.specs.Priority.{block_total}
use Rattle.block_book.proofs.Lines.{line-strict}
use Rattle.block_book.proofs.Lists.{Differ, ascending-differ, differ-filter, find-block, from_ordered, is_of-last, is_of-side}
use Rattle.block_match.specs.Deals.{partner_of}
use Rattle.block_match.specs.Meeting.{can_trade, carries_whole, is_crossed}
use Rattle.block_match.specs.Walking.{crossed_line, opposite_line}

-- lines are walked by the numbers of their blocks
abbrev pub number_of : RestingBlock → ℕ
number_of block = block.number

-- tests that agree find the same
find-same : (p q : RestingBlock → Bool) (xs : List RestingBlock) → ((x : RestingBlock) → p x ≡ q x) → find p xs ≡ find q xs
find-same p q [] same = refl
find-same p q (x ∷ xs) same = rw (same x, find-same p q xs same) refl

-- the partner is the first along the line of those that are crossed to which the pour carries all
pub partner-is : (graph : Graph) (room : Arc → ℕ) (book : List RestingBlock) (own : RestingBlock)
    → find (carries_whole graph room own) (crossed_line book own) ≡ partner_of graph room book own
partner-is graph room book own =
    let carries = carries_whole graph room own in
    let line = line_of book own.last (opposite own.side) in
    find-filter carries (is_crossed own) (opposite_line book own)
    ∙ find-filter (λ x. is_crossed own x && carries x) (has_quantity own.quantity) line
    ∙ find-same (λ x. has_quantity own.quantity x && (is_crossed own x && carries x)) (can_trade graph room own) line
    (λ x. agrees (x.quantity == own.quantity) (is_crossed own x) (carries x))
  where
    agrees : (a b c : Bool) → (a && (b && c)) ≡ (if a && b then c else false)
    agrees true true c = refl
    agrees true false c = refl
    agrees false b c = refl

-- what stands in a line is of it, and in the book
module _ (book : List RestingBlock) (last : ℕ) (side : Side) (block : RestingBlock) (i : IsIn block (line_of book last side)) where
  there : IsIn block book × (is_of last side block ≡ true)
  there = from_filter (is_of last side) block book (from_ordered (block_cmp side) block (filter (is_of last side) book) i)

  pub line-in : IsIn block book
  line-in = there.0

  pub line-last : block.last ≡ last
  line-last = is_of-last last side block there.1

  pub line-side : block.side ≡ side
  line-side = is_of-side last side block there.1

pub in-book : (book : List RestingBlock) → IsBook book → (block : RestingBlock) → IsIn block book → block_of book block.number ≡ Some block
in-book book sound block i = find-block block.number block book (ascending-differ book sound.ascending) i refl

-- no number stands twice in a line
pub line-differ : (book : List RestingBlock) → IsBook book → (last : ℕ) (side : Side) → Differ (line_of book last side)
line-differ book sound last side = strict-differ (line_of book last side) (line-strict book sound last side) (λ x i. in-book book sound x (line-in book last side x i))
  where
    -- blocks of one number are one block, and none comes before itself
    strict-differ : (line : List RestingBlock) → IsStrictlyInOrder (block_cmp side) line → ((x : RestingBlock) → IsIn x line → block_of book x.number ≡ Some x) → Differ line
    strict-differ [] strict known = tt
    strict-differ (x ∷ line) strict known = (
      λ y i. λ same.
          let one : Some x ≡ Some y = sym (known x (inl refl)) ∙ ap (block_of book) same ∙ known y (inr i) in
          let is : x ≡ y = cc in
          let before : is_lt (block_cmp side x x) ≡ true = subst (λ z. is_lt (block_cmp side x z) ≡ true) (sym is) (strict.0 y i) in
          true≢false (sym before ∙ (ranks_by (block_total side) (λ (b : RestingBlock). b)).one_way x x before),
      strict-differ line strict.1 (λ z i. known z (inr i)),
    )

-- the line of a block that stands in the opposite line of another one is that line
pub opposite-line : (book : List RestingBlock) (own other : RestingBlock) → IsIn other (opposite_line book own)
    → quantity_line book other.last other.quantity other.side ≡ opposite_line book own
opposite-line book own other i =
    let line = line_of book own.last (opposite own.side) in
    let here = from_filter (has_quantity own.quantity) other line i in
    ap (λ l. quantity_line book l other.quantity other.side) (line-last book own.last (opposite own.side) other here.0)
    ∙ ap (λ q. quantity_line book own.last q other.side) (eqb-true other.quantity own.quantity here.1)
    ∙ ap (quantity_line book own.last own.quantity) (line-side book own.last (opposite own.side) other here.0)

-- the lines that a partner is sought in are in priority, and their numbers differ
module _ (book : List RestingBlock) (sound : IsBook book) (own : RestingBlock) where
  pub opposite-strict : IsStrictlyInOrder (block_cmp (opposite own.side)) (opposite_line book own)
  opposite-strict =
      in_order-filter (block_cmp (opposite own.side)) (has_quantity own.quantity) (line_of book own.last (opposite own.side))
      (line-strict book sound own.last (opposite own.side))

  pub crossed-differ : Differ (crossed_line book own)
  crossed-differ =
      differ-filter (is_crossed own) (opposite_line book own)
      (differ-filter (has_quantity own.quantity) (line_of book own.last (opposite own.side)) (line-differ book sound own.last (opposite own.side)))

  pub from_crossed : (other : RestingBlock) → IsIn other (crossed_line book own) → IsIn other (opposite_line book own)
  from_crossed other i = (from_filter (is_crossed own) other (opposite_line book own) i).0

  pub opposite-in : (other : RestingBlock) → IsIn other (opposite_line book own) → IsIn other book
  opposite-in other i =
      line-in book own.last (opposite own.side) other (from_filter (has_quantity own.quantity) other (line_of book own.last (opposite own.side)) i).0
