use Rattle.std.proofs.Common.{◌≡◌, ◌≤◌, ◌+◌, ◌++◌, length, map, vec_capacity, vec_len}
use Rattle.desk_locks.specs.Held.{AllInPlace, places_within}
use Rattle.desk_locks.specs.Homes.{place_of_lock, place_of_taken}
use Rattle.desk_locks.proofs.row.DeskRow.hold.Given as goal

-- what is taken so far is in its place, and there is room for what is left
abbrev pub invariant-loop-lock : goal.invariant-loop-lock
invariant-loop-lock g l = record {
  can : (goal.iterator-loop-lock g).can_next l.lock-iterator;
  finite : (goal.iterator-loop-lock g).is_finite l.lock-iterator;
  parts : map place_of_taken l.taken.items ++ map place_of_lock l.lock-iterator.rest.items ≡ places_within l.fn.hours l.fn.self;
  in_place : AllInPlace (map place_of_taken l.taken.items) l.desks.items l.seats.items;
  desks : vec_len l.desks + length l.lock-iterator.rest.items ≤ vec_capacity l.desks;
  seats : vec_len l.seats + length l.lock-iterator.rest.items ≤ vec_capacity l.seats;
  taken : vec_len l.taken + length l.lock-iterator.rest.items ≤ vec_capacity l.taken;
}
