-- How a call on the disk of a journal ends a run.
use Rattle.session_io.specs.declared.status.Status.{Status}
use Rattle.session_io.specs.declared.status.Status.TheVariants as status

-- a line was not appended
abbrev pub EndsAppend : Status → Type 0
EndsAppend status.NoMemory = Unit {0}
EndsAppend status.DiskFault = Unit {0}
EndsAppend status.TooLong = Unit {0}
EndsAppend _ = ⊥

-- an image was not opened
abbrev pub EndsOpening : Status → Type 0
EndsOpening status.NoMemory = Unit {0}
EndsOpening status.DiskFault = Unit {0}
EndsOpening (status.BadImage place) = Unit {0}
EndsOpening _ = ⊥

-- an image was not written to the disk, or not read from it
abbrev pub EndsCall : Status → Type 0
EndsCall status.NoMemory = Unit {0}
EndsCall status.DiskFault = Unit {0}
EndsCall _ = ⊥
