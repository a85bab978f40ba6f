use Rattle.std.proofs.Common.{◌≡◌, ◌++◌, map}
use Rattle.desk_locks.specs.Homes.{place_of_home}
use Rattle.desk_locks.specs.Places.{place_of_seat}
use Rattle.desk_locks.proofs.row.DeskRow.new.Given as goal

-- a place for each seat so far
abbrev pub invariant-loop-seat : goal.invariant-loop-seat
invariant-loop-seat l = record {
  can : (goal.iterator-loop-seat).can_next l.seat-iterator;
  finite : (goal.iterator-loop-seat).is_finite l.seat-iterator;
  parts : l.yielded ++ l.seat-iterator.rest.items ≡ l.fn.seats;
  places : map place_of_home l.homes.items ≡ map place_of_seat l.yielded;
}
