use Rattle.std.proofs.Common.{◌≡◌, ◌++◌, drop, map}
use Rattle.desk_locks.specs.Held.{places_within}
use Rattle.desk_locks.specs.Homes.{place_of_home, place_of_lock}
use Rattle.desk_locks.proofs.row.DeskRow.locks_of.Given as goal

-- the locks so far, and those of the places that are left
abbrev pub invariant-loop-home : goal.invariant-loop-home
invariant-loop-home l =
    map place_of_lock l.locks.items ++ places_within l.hours (map place_of_home (drop l.home-index l.home-items)) ≡ places_within l.hours (map place_of_home l.home-items)
