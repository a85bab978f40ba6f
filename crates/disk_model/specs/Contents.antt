-- What a disk holds, what a write and a sync make of it, and what a crash leaves.
use Rattle.std.specs.Prelude.{◌≡◌, ◌⊎◌, ℕ, ◌+◌, ◌<◌, ◌≤◌, max, List, [], ◌∷◌, ◌++◌, length, take, drop, replicate, slice_index}
use Rattle.disk_model.specs.declared.span.Span.{Span}

-- the bytes that a disk reads as, those that it read as at its last sync, and the ranges that were
-- written since, in order
pub record Contents : Type 0 where
  pub bytes : List ℕ
  pub synced : List ℕ
  pub pending : List Span

-- the most bytes that a disk holds
abbrev pub most_bytes : ℕ
most_bytes = 134217728

-- a disk that reads as these bytes, with nothing pending
abbrev pub settled : List ℕ → Contents
settled bytes = record { bytes = bytes; synced = bytes; pending = [] }

-- bytes with a piece at a place, over what stood there and past the end
abbrev pub overwritten : List ℕ → (place : ℕ) → (piece : List ℕ) → List ℕ
overwritten bytes place piece = take place bytes ++ piece ++ drop (place + length piece) bytes

-- a range of bytes
abbrev pub range : (place count : ℕ) → Span
range place count = record { place = place; count = count }

-- the contents after a write that succeeded: the piece is read, and its range is pending
abbrev pub written : Contents → (place : ℕ) → (piece : List ℕ) → Contents
written contents place piece = record {
  bytes = overwritten contents.bytes place piece;
  synced = contents.synced;
  pending = contents.pending ++ range place (length piece) ∷ [];
}

-- bytes of which any part of a range may have been written over: they are the same before it and
-- behind it, none is lost, and they go on no further than the range does
pub record Torn (place count : ℕ) (old new : List ℕ) : Type 0 where
  pub before : take place new ≡ take place old
  pub behind : drop (place + count) new ≡ drop (place + count) old
  pub no_shorter : length old ≤ length new
  pub no_longer : length new ≤ max (length old) (place + count)

-- the contents after a write that failed: any bytes may stand in its range, which is pending
pub record FailedWrite (place count : ℕ) (old new : Contents) : Type 0 where
  pub bytes : Torn place count old.bytes new.bytes
  pub synced : new.synced ≡ old.synced
  pub pending : new.pending ≡ old.pending ++ range place count ∷ []

-- the greater of a number and the greatest end of the ranges
abbrev pub greatest_end : ℕ → List Span → ℕ
greatest_end end [] = end
greatest_end end (span ∷ spans) = greatest_end (max end (span.place + span.count)) spans

-- no range has this place
abbrev pub AreApart : (place : ℕ) → List Span → Type 0
AreApart place [] = Unit {0}
AreApart place (span ∷ spans) = ((place < span.place) ⊎ (span.place + span.count ≤ place)) × AreApart place spans

-- A crash may leave this image: each pending range holds any bytes, the part past the end that
-- stood at the last sync has any length up to the greatest end written, and all other bytes are as
-- at the last sync.
pub record IsImage (contents : Contents) (image : List ℕ) : Type 0 where
  pub no_shorter : length contents.synced ≤ length image
  pub no_longer : length image ≤ greatest_end (length contents.synced) contents.pending
  pub others : (place : ℕ) → place < length contents.synced → AreApart place contents.pending
      → slice_index image place ≡ slice_index contents.synced place

-- bytes in which each byte of these ranges is `fill`
abbrev pub filled : (fill : ℕ) → List ℕ → List Span → List ℕ
filled fill bytes [] = bytes
filled fill bytes (span ∷ spans) = filled fill (overwritten bytes span.place (replicate span.count fill)) spans

-- the image in which every pending byte is `fill`
abbrev pub filled_image : (fill : ℕ) → Contents → List ℕ
filled_image fill contents = filled fill contents.bytes contents.pending
