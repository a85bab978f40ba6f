-- How a run ends.
use Rattle.std.specs.Prelude.{ℕ, List, [], ◌∷◌, ◌++◌, codes, decimal, Bool, true, false}
use Rattle.session_io.specs.declared.status.Status.{Status}
use Rattle.session_io.specs.declared.status.Status.TheVariants as status

-- the exit status of the process
abbrev pub status_number : Status → ℕ
status_number status.Done = 0
status_number status.Usage = 2
status_number (status.BadSession line) = 3
status_number status.ReadFault = 4
status_number status.WriteFault = 5
status_number status.NoMemory = 6
status_number status.TooLong = 7
status_number (status.Illegal entry) = 8
status_number status.DiskFault = 9
status_number (status.BadImage place) = 10

-- what is said of the end, without its line feed
abbrev pub message_line : Status → List ℕ
message_line status.Done = []
message_line status.Usage = codes "sidc: bad words"
message_line (status.BadSession line) = codes "sidc: bad session, line " ++ decimal line
message_line status.ReadFault = codes "sidc: read fault"
message_line status.WriteFault = codes "sidc: write fault"
message_line status.NoMemory = codes "sidc: no memory"
message_line status.TooLong = codes "sidc: session too long"
message_line (status.Illegal entry) = codes "sidc: illegal entry " ++ decimal entry
message_line status.DiskFault = codes "sidc: disk fault"
message_line (status.BadImage place) = codes "sidc: bad image, place " ++ decimal place

-- what is said of the end: one line, or nothing where all went well
abbrev pub message_of : Status → List ℕ
message_of status.Done = []
message_of other = message_line other ++ 10 ∷ []

-- nothing is written where a run ends so
abbrev pub writes_nothing : Status → Bool
writes_nothing status.Usage = true
writes_nothing (status.BadSession line) = true
writes_nothing status.ReadFault = true
writes_nothing status.TooLong = true
writes_nothing (status.Illegal entry) = true
writes_nothing status.DiskFault = true
writes_nothing (status.BadImage place) = true
writes_nothing _ = false

-- the input was read to its end where a run ends so
abbrev pub reads_to_end : Status → Bool
reads_to_end status.Done = true
reads_to_end (status.BadSession line) = true
reads_to_end status.WriteFault = true
reads_to_end (status.Illegal entry) = true
reads_to_end status.DiskFault = true
reads_to_end (status.BadImage place) = true
reads_to_end _ = false

-- a run may end so before it has anything to write
abbrev pub stops_reading : Status → Bool
stops_reading (status.BadSession line) = true
stops_reading status.ReadFault = true
stops_reading status.TooLong = true
stops_reading status.NoMemory = true
stops_reading (status.Illegal entry) = true
stops_reading _ = false

-- what only a run over a disk ends by
abbrev pub is_of_disk : Status → Bool
is_of_disk status.DiskFault = true
is_of_disk (status.BadImage place) = true
is_of_disk _ = false
