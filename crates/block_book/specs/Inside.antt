-- How a book lays out its blocks. No public clause cites this module.
use Rattle.std.specs.Prelude.{◌≡◌, ℕ, ◌+◌, ◌*◌, ◌%◌, ◌==◌, ◌&&◌, nat_eq, nat_lt, if◌then◌else◌, Bool, List, [], ◌∷◌, filter, length, Option, Some, None}
use Rattle.std.specs.Option.{option_eq, unwrap_or}
use Rattle.order_kinds.specs.declared.side.Side.{Side}
use Rattle.order_kinds.specs.declared.side.Side.TheVariants.{Buy, Sell}
use Rattle.order_pool.specs.Lines.{line_at}
use Rattle.zone_graph.specs.InOrder.{in_order}
use Rattle.record_pool.specs.Keyed.{held, AreKeyed}
use Rattle.record_pool.specs.Lines.{AreLines}
use Rattle.record_pool.specs.Ranked.{records_of}
use Rattle.block_book.specs.declared.block.RestingBlock.{RestingBlock}
use Rattle.block_book.specs.declared.ladder.Ladder.{Ladder}
use Rattle.block_book.specs.declared.line_key.Grain.{Grain}
use Rattle.block_book.specs.declared.line_key.Grain.TheVariants as grains
use Rattle.block_book.specs.declared.line_key.LineKey.{LineKey}
use Rattle.block_book.specs.Blocks.{block_cmp, number_cmp, number_of}
use Rattle.block_book.specs.Book.{first_of, is_of}

-- the blocks that places hold, by ascending number
abbrev pub book_in : List (Option RestingBlock) → List RestingBlock
book_in places = in_order number_cmp (held places)

-- what the line is found by that has a block
abbrev pub key_by : Grain → RestingBlock → LineKey
key_by grain block = record { last = block.last; side = block.side; quantity = lots grain }
  where
    lots : Grain → Option ℕ
    lots grains.Period = None
    lots grains.Quantity = Some block.quantity

-- a block is in the line of this key
abbrev pub has_key : Grain → LineKey → RestingBlock → Bool
has_key grain key block = option_eq nat_eq (key_by grain block).quantity key.quantity && is_of key.last key.side block

-- the line of a key: its blocks, in priority
abbrev pub line_by : Grain → List RestingBlock → LineKey → List RestingBlock
line_by grain book key = in_order (block_cmp key.side) (filter (has_key grain key) book)

-- periods and quantities, spread over the rings of a side
abbrev pub spread : (last : ℕ) → Option ℕ → ℕ
spread last quantity = (last % 2048 * 83 + unwrap_or quantity 0 % 2039) % 2048

-- the buyers' rings are the first half, and the sellers' the second
abbrev pub in_half : Side → ℕ → ℕ
in_half Buy ring = ring
in_half Sell ring = 2048 + ring

-- the number of the ring that has the line of a key
abbrev pub key_ring : LineKey → ℕ
key_ring key = in_half key.side (spread key.last key.quantity)

-- the side of a ring
abbrev pub side_by : (ring : ℕ) → Side
side_by ring = if nat_lt ring 2048 then Buy else Sell

-- a block stands in the ring of its key
abbrev pub Belongs : Grain → (ring : ℕ) → RestingBlock → Type 0
Belongs grain ring block = key_ring (key_by grain block) ≡ ring

-- the places of a ring from one of them on
abbrev pub places_from : Option ℕ → List ℕ → List ℕ
places_from None ring = []
places_from (Some place) [] = []
places_from (Some place) (first ∷ rest) = if first == place then first ∷ rest else places_from (Some place) rest

-- the first block of a key from a place of the key's ring on
abbrev pub first_from : Ladder → List (Option RestingBlock) → LineKey → (from : Option ℕ) → Option RestingBlock
first_from ladder places key from =
    first_of (filter (has_key ladder.grain key) (records_of places (places_from from (line_at ladder.rings (key_ring key)))))

-- the blocks stand in the rings of their keys, each ring in priority
pub record IsLadder (places : List (Option RestingBlock)) (ladder : Ladder) : Type 0 where
  pub many : length ladder.rings ≡ 4096
  pub are : AreLines block_cmp side_by (Belongs ladder.grain) places ladder.rings

-- the blocks are found by their numbers and stand in lines of both kinds
pub record IsInside (places : List (Option RestingBlock)) (by_period by_quantity : Ladder) : Type 0 where
  pub keyed : AreKeyed number_of places
  pub of_period : by_period.grain ≡ grains.Period
  pub of_quantity : by_quantity.grain ≡ grains.Quantity
  pub periods : IsLadder places by_period
  pub quantities : IsLadder places by_quantity
