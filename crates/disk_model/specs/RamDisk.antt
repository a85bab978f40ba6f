-- A disk in memory, as its callers see it, and what its calls do to it.
use Rattle.std.specs.Prelude.{ℕ, ◌-◌, max, List, [], ◌∷◌, ◌++◌, length, Result, Ok, Err}
use Rattle.outside.specs.Faults.{raised, faults_after}
use Rattle.disk_model.specs.Contents.{Contents, settled, written, range}

-- what it holds, what it held at each earlier moment, the numbers of the calls that fail, how many
-- calls were made that can fail and how many of them failed, and for how many further calls and
-- bytes there is room
pub record RamState : Type 0 where
  pub now : Contents
  pub past : List Contents
  pub fails : List ℕ
  pub calls : ℕ
  pub faults : ℕ
  pub spare_calls : ℕ
  pub spare_bytes : ℕ

-- a disk that reads as these bytes, with nothing pending, on which no call was made yet
abbrev pub fresh_disk : (bytes : List ℕ) → (listed : List ℕ) → RamState
fresh_disk bytes listed = record {
  now = settled bytes;
  past = [];
  fails = listed;
  calls = 0;
  faults = 0;
  spare_calls = 0;
  spare_bytes = 0;
}

-- a disk with room for so many further calls and bytes, and for no fewer than it had room for
abbrev pub with_room : RamState → (calls bytes : ℕ) → RamState
with_room disk more_calls more_bytes = record disk {
  spare_calls = max disk.spare_calls more_calls;
  spare_bytes = max disk.spare_bytes more_bytes;
}

-- a disk after a call with this answer that changed nothing else: the call is counted
abbrev pub after_call : {T E : Type 0} → RamState → Result T E → RamState
after_call disk result = record disk {
  calls = raised disk.calls;
  faults = faults_after disk.faults result;
}

-- a disk whose contents go over into others
abbrev pub moved_on : RamState → Contents → RamState
moved_on disk contents = record disk { now = contents; past = disk.past ++ disk.now ∷ [] }

-- contents whose bytes stay, and one more range of which is pending
abbrev pub with_pending : Contents → (place count : ℕ) → Contents
with_pending contents place count = record contents { pending = contents.pending ++ range place count ∷ [] }

-- what a disk holds after a write with this answer: one that fails writes nothing, and its range
-- is pending
abbrev pub contents_written : {T E : Type 0} → Contents → (place : ℕ) → (piece : List ℕ) → Result T E → Contents
contents_written contents place piece (Ok value) = written contents place piece
contents_written contents place piece (Err error) = with_pending contents place (length piece)

-- a disk after a write with this answer
abbrev pub after_write : {T E : Type 0} → RamState → (place : ℕ) → (piece : List ℕ) → Result T E → RamState
after_write disk place piece result = record (moved_on (after_call disk result) (contents_written disk.now place piece result)) {
  spare_calls = disk.spare_calls - 1;
  spare_bytes = disk.spare_bytes - length piece;
}

-- what a disk holds after a sync with this answer: one that fails changes nothing
abbrev pub contents_synced : {T E : Type 0} → Contents → Result T E → Contents
contents_synced contents (Ok value) = settled contents.bytes
contents_synced contents (Err error) = contents

-- what it held before, after a sync with this answer
abbrev pub past_synced : {T E : Type 0} → RamState → Result T E → List Contents
past_synced disk (Ok value) = disk.past ++ disk.now ∷ []
past_synced disk (Err error) = disk.past

-- a disk after a sync with this answer
abbrev pub after_sync : {T E : Type 0} → RamState → Result T E → RamState
after_sync disk result = record (after_call disk result) {
  now = contents_synced disk.now result;
  past = past_synced disk result;
  spare_calls = disk.spare_calls - 1;
}
