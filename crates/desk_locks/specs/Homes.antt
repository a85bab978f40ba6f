-- The places of the locks of a row.
use Rattle.std.specs.Arc.{arc_value}
use Rattle.std.specs.declared.snapshot.Snapshot.{Snapshot}
use Rattle.std.specs.declared.sync.Arc.{Arc}
use Rattle.journal_front.specs.Fronts.{DeskSeatState}
use Rattle.kept_lock.specs.Lock.{Keyed}
use Rattle.desk_locks.specs.declared.home.Home.{Home}
use Rattle.desk_locks.specs.declared.home.Taken.{Taken}
use Rattle.desk_locks.specs.Places.{Place, place_of_seat}

-- the place of a lock: that of the seat that it had at first
abbrev pub place_of_lock : {Z : Type 0} → Arc (Keyed (Snapshot DeskSeatState)) Z → Place
place_of_lock lock = place_of_seat (arc_value lock).key.value

abbrev pub place_of_home : Home → Place
place_of_home home = place_of_lock home.lock

-- the place of a lock that is taken
abbrev pub place_of_taken : Taken → Place
place_of_taken taken = place_of_seat taken.duty.key.value
