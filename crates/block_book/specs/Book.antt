-- The book of the blocks that start in an hour, as its callers see it: the blocks that rest, by
-- ascending number, and of each period and side the line of its blocks in priority.
use Rattle.std.specs.Prelude.{ℕ, ◌≤◌, ◌==◌, ◌&&◌, Bool, not, List, [], ◌∷◌, filter, length, Option, Some, None, if◌then◌else◌}
use Rattle.std.specs.List.{find}
use Rattle.order_kinds.specs.declared.side.Side.{Side}
use Rattle.order_kinds.specs.Same.{same_side}
use Rattle.zone_graph.specs.InOrder.{IsStrictlyInOrder, in_order, put_in_order}
use Rattle.block_book.specs.declared.block.RestingBlock.{RestingBlock}
use Rattle.block_book.specs.Blocks.{block_cmp, number_cmp}

-- the block has this number
abbrev pub has_number : (number : ℕ) → RestingBlock → Bool
has_number number block = block.number == number

-- the block is of the period that ends with this hour, and on this side
abbrev pub is_of : (last : ℕ) → Side → RestingBlock → Bool
is_of last side block = (block.last == last) && same_side block.side side

-- the block has this quantity
abbrev pub has_quantity : (quantity : ℕ) → RestingBlock → Bool
has_quantity quantity block = block.quantity == quantity

-- the block of this number, if it rests
abbrev pub block_of : List RestingBlock → (number : ℕ) → Option RestingBlock
block_of book number = find (has_number number) book

-- the book with a block that comes to rest
abbrev pub with_block : List RestingBlock → RestingBlock → List RestingBlock
with_block book block = put_in_order number_cmp book block

-- the book, and a line, without the block of this number
abbrev pub without : List RestingBlock → (number : ℕ) → List RestingBlock
without book number = filter (λ block. not (has_number number block)) book

-- the line of a period and side: its blocks of all quantities, in priority
abbrev pub line_of : List RestingBlock → (last : ℕ) → Side → List RestingBlock
line_of book last side = in_order (block_cmp side) (filter (is_of last side) book)

-- the line of a period, quantity and side
abbrev pub quantity_line : List RestingBlock → (last quantity : ℕ) → Side → List RestingBlock
quantity_line book last quantity side = filter (has_quantity quantity) (line_of book last side)

-- the first block of a line
abbrev pub first_of : List RestingBlock → Option RestingBlock
first_of [] = None
first_of (block ∷ line) = Some block

-- the block behind that of this number in a line
abbrev pub after_in : (number : ℕ) → List RestingBlock → Option RestingBlock
after_in number [] = None
after_in number (block ∷ line) = if has_number number block then first_of line else after_in number line

-- what every book keeps: its blocks stand by ascending number, no number twice, and no more than
-- 4096 of them rest
pub record IsBook (book : List RestingBlock) : Type 0 where
  pub ascending : IsStrictlyInOrder number_cmp book
  pub few : length book ≤ 4096
