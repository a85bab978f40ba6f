-- What the calls of a book tell, said of what its callers see.
use Rattle.std.proofs.Common.{◌≡◌, ◌∙◌, ℕ, ◌<◌, List, filter, length, set, Option, Some, None, IfSome, sym, ap, subst, arith}
use Rattle.std.proofs.lemmas.List.{set-get_or}
use Rattle.order_kinds.specs.declared.side.Side.{Side}
use Rattle.zone_graph.specs.InOrder.{in_order}
use Rattle.zone_graph.proofs.InOrder.{in_order-filter}
use Rattle.zone_graph.proofs.Membership.{IsIn-filter, from_filter}
use Rattle.record_pool.specs.Keyed.{AreKeyed, Holds, IsAbsent, held_at, held_count}
use Rattle.record_pool.proofs.Counts.{held_count-most}
use Rattle.block_book.specs.declared.block.RestingBlock.{RestingBlock}
use Rattle.block_book.specs.declared.line_key.Grain.{Grain}
use Rattle.block_book.specs.declared.line_key.Grain.TheVariants as grains
use Rattle.block_book.specs.declared.line_key.LineKey.{LineKey}
use Rattle.block_book.specs.Blocks.{block_cmp, number_of}
use Rattle.block_book.specs.Book.{IsBook, after_in, block_of, has_quantity, is_of, line_of, quantity_line, with_block, without}
use Rattle.block_book.specs.Inside.{book_in, has_key, key_by, line_by}
use Rattle.block_book.specs.Priority.{block_total}
use Rattle.block_book.proofs.Held.{absent_of, ascending, found, kept, length-book, not_found, put-book, take-book}
use Rattle.block_book.proofs.Ladders.{set-twice}
use Rattle.block_book.proofs.Lists.{and-both, ascending-differ, block-ties, differ-filter, from_ordered, in_ordered, one_list, strict-in_order}

-- what the lines of a period, and of a quantity of it, are found by
abbrev pub period_key : (last : ℕ) → Side → LineKey
period_key last side = record { last = last; side = side; quantity = None }

abbrev pub quantity_key : (last quantity : ℕ) → Side → LineKey
quantity_key last quantity side = record { last = last; side = side; quantity = Some quantity }

-- the line of a quantity is that of its key
quantity-line : (book : List RestingBlock) → IsBook book → (last quantity : ℕ) (side : Side) → line_by grains.Quantity book (quantity_key last quantity side) ≡ quantity_line book last quantity side
quantity-line book sound last quantity side =
    let p = has_key grains.Quantity (quantity_key last quantity side) in
    let apart = ascending-differ book sound.ascending in
    one_list (block_cmp side) (block_total side) (block-ties side) (in_order (block_cmp side) (filter p book)) (quantity_line book last quantity side)
    (strict-in_order (block_cmp side) (block_total side) (block-ties side) (filter p book) (differ-filter p book apart))
    (in_order-filter (block_cmp side) (has_quantity quantity) (line_of book last side)
    (strict-in_order (block_cmp side) (block_total side) (block-ties side) (filter (is_of last side) book) (differ-filter (is_of last side) book apart)))
    (λ block i.
    let there = from_filter p block book (from_ordered (block_cmp side) block (filter p book) i) in
    let both = and-both (has_quantity quantity block) (is_of last side block) there.1 in
    IsIn-filter (has_quantity quantity) block (line_of book last side)
    (in_ordered (block_cmp side) block (filter (is_of last side) book) (IsIn-filter (is_of last side) block book there.0 both.1)) both.0)
    (λ block i.
    let there = from_filter (has_quantity quantity) block (line_of book last side) i in
    let at = from_filter (is_of last side) block book (from_ordered (block_cmp side) block (filter (is_of last side) book) there.0) in
    in_ordered (block_cmp side) block (filter p book) (IsIn-filter p block book at.0 (rw (there.1) at.1)))

module _ (places : List (Option RestingBlock)) (keyed : AreKeyed number_of places) (book : List RestingBlock) (shown : book_in places ≡ book) where
  pub told-book : IsBook book
  told-book = subst IsBook shown (record { ascending = ascending places keyed; few = omega (arith, length-book places, held_count-most places, keyed.size) })

  pub told-count : length book ≡ held_count places
  told-count = ap length (sym shown) ∙ length-book places

  pub told-block : (place number : ℕ) (block : RestingBlock) → held_at places place ≡ Some block → number_of block ≡ number → block_of book number ≡ Some block
  told-block place number block holds is = ap (λ b. block_of b number) (sym shown) ∙ found places keyed place number block holds is

  pub told-none : (number : ℕ) → IsAbsent number_of places number → block_of book number ≡ None
  told-none number absent = ap (λ b. block_of b number) (sym shown) ∙ not_found places keyed number absent

  pub told-absent : (number : ℕ) → block_of book number ≡ None → IsAbsent number_of places number
  told-absent number none = absent_of places keyed number (ap (λ b. block_of b number) shown ∙ none)

  pub told-kept : (number : ℕ) → IsAbsent number_of places number → book ≡ without book number
  told-kept number absent = subst (λ b. b ≡ without b number) shown (kept places keyed number absent)

  pub told-taken : (place number : ℕ) (block : RestingBlock) → held_at places place ≡ Some block → number_of block ≡ number → AreKeyed number_of (set places place None)
      → book_in (set places place None) ≡ without book number
  told-taken place number block holds is keyed_new =
      take-book places keyed place block holds keyed_new ∙ ap (λ b. without b block.number) shown ∙ ap (without book) is

  pub told-put : (block : RestingBlock) (place : ℕ) → held_at places place ≡ None → place < 4096 → block_of book block.number ≡ None → AreKeyed number_of (set places place (Some block))
      → book_in (set places place (Some block)) ≡ with_block book block
  told-put block place free low none keyed_new =
      put-book places keyed place block (omega (arith, low, keyed.size)) free (told-absent block.number none) keyed_new ∙ ap (λ b. with_block b block) shown

  pub told-period : (grain : Grain) → grain ≡ grains.Period → (last : ℕ) (side : Side) → line_by grain (book_in places) (period_key last side) ≡ line_of book last side
  told-period grain is last side = rw is (ap (λ b. line_of b last side) shown)

  pub told-quantity : (grain : Grain) → grain ≡ grains.Quantity → (last quantity : ℕ) (side : Side) → line_by grain (book_in places) (quantity_key last quantity side) ≡ quantity_line book last quantity side
  told-quantity grain is last quantity side = rw (is, shown) (quantity-line book told-book last quantity side)

  -- what stands behind the block of a number
  module _ (place number : ℕ) (holds : Holds number_of places number place) (grain : Grain) (result : Option RestingBlock)
      (after : IfSome (held_at places place) (λ block. result ≡ after_in block.number (line_by grain (book_in places) (key_by grain block)))) where
    after_it : result ≡ after_in number (line_by grain (book_in places) (key_by grain holds.0))
    after_it =
        subst (λ o. IfSome o (λ block. result ≡ after_in block.number (line_by grain (book_in places) (key_by grain block)))) holds.1 after
        ∙ ap (λ n. after_in n (line_by grain (book_in places) (key_by grain holds.0))) holds.2

    pub told-after_any : grain ≡ grains.Period → IfSome (block_of book number) (λ block. result ≡ after_in number (line_of book block.last block.side))
    told-after_any is =
        let line : line_by grain (book_in places) (key_by grain holds.0) ≡ line_of book holds.0.last holds.0.side =
        ap (λ g. line_by grain (book_in places) (key_by g holds.0)) is ∙ told-period grain is holds.0.last holds.0.side in
        rw (told-block place number holds.0 holds.1 holds.2) (after_it ∙ ap (after_in number) line)

    pub told-after : grain ≡ grains.Quantity → IfSome (block_of book number) (λ block. result ≡ after_in number (quantity_line book block.last block.quantity block.side))
    told-after is =
        let line : line_by grain (book_in places) (key_by grain holds.0) ≡ quantity_line book holds.0.last holds.0.quantity holds.0.side =
        ap (λ g. line_by grain (book_in places) (key_by g holds.0)) is ∙ told-quantity grain is holds.0.last holds.0.quantity holds.0.side in
        rw (told-block place number holds.0 holds.1 holds.2) (after_it ∙ ap (after_in number) line)

-- a block that comes to a free place and is taken out again leaves the places as they were
pub told-less : (places : List (Option RestingBlock)) (place : ℕ) (block : RestingBlock) → held_at places place ≡ None → (new : List (Option RestingBlock)) → new ≡ set places place (Some block)
    → set new place None ≡ places
told-less places place block free new put =
    ap (λ l. set l place None) put ∙ set-twice places place (Some block) None ∙ ap (set places place) (sym free) ∙ set-get_or places place None
