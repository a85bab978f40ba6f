-- How a disk in memory keeps its past: the pieces that were written, one behind the other, and a
-- mark for each write and each sync.
use Rattle.std.specs.Prelude.{◌≡◌, ℕ, ◌+◌, ◌≤◌, List, [], ◌∷◌, length, take, drop}
use Rattle.disk_model.specs.declared.span.Span.{Span}
use Rattle.disk_model.specs.declared.mark.Mark.{Mark}
use Rattle.disk_model.specs.declared.mark.Mark.TheVariants as mark
use Rattle.disk_model.specs.Contents.{Contents, IsImage, settled, written, greatest_end, most_bytes}
use Rattle.disk_model.specs.RamDisk.{with_pending}

-- the contents after what a mark stands for, where its piece comes first
abbrev pub after_mark : Contents → Mark → List ℕ → Contents
after_mark contents (mark.Written span) pieces = written contents span.place (take span.count pieces)
after_mark contents (mark.Failed span) pieces = with_pending contents span.place span.count
after_mark contents mark.Synced pieces = settled contents.bytes

-- how many bytes a mark's piece has
abbrev pub piece_length : Mark → ℕ
piece_length (mark.Written span) = span.count
piece_length (mark.Failed span) = 0
piece_length mark.Synced = 0

-- how many bytes the pieces of all marks have
abbrev pub total_length : List Mark → ℕ
total_length [] = 0
total_length (first ∷ marks) = piece_length first + total_length marks

-- the contents after all marks
abbrev pub contents_after : Contents → List Mark → List ℕ → Contents
contents_after contents [] pieces = contents
contents_after contents (first ∷ marks) pieces = contents_after (after_mark contents first pieces) marks (drop (piece_length first) pieces)

-- the contents before each mark
abbrev pub contents_before : Contents → List Mark → List ℕ → List Contents
contents_before contents [] pieces = []
contents_before contents (first ∷ marks) pieces = contents ∷ contents_before (after_mark contents first pieces) marks (drop (piece_length first) pieces)

-- each range begins within so many bytes, or at their end
abbrev pub BeginWithin : ℕ → List Span → Type 0
BeginWithin count [] = Unit {0}
BeginWithin count (span ∷ spans) = (span.place ≤ count) × BeginWithin count spans

-- the contents are those of a disk: what it reads as is one of its images, each write began within
-- its bytes, and none went past the most that it holds
pub record IsSound (contents : Contents) : Type 0 where
  pub among : IsImage contents contents.bytes
  pub begin : BeginWithin (length contents.bytes) contents.pending
  pub small : greatest_end (length contents.synced) contents.pending ≤ most_bytes

-- a buffer of this length and capacity has room for so many more
abbrev pub HasRoom : (len capacity more : ℕ) → Type 0
HasRoom len capacity more = len + more ≤ capacity

-- the bytes and the ranges that are kept are those of the contents, and the pieces are those of
-- the marks
pub record IsKept (contents : Contents) (bytes : List ℕ) (pending : List Span) (marks : List Mark) (pieces : List ℕ) : Type 0 where
  pub sound : IsSound contents
  pub same_bytes : contents.bytes ≡ bytes
  pub same_pending : contents.pending ≡ pending
  pub lengths : length pieces ≡ total_length marks
