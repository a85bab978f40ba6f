use Rattle.std.proofs.Common.{map, vec_len}
use Rattle.desk_locks.specs.Held.{AllInPlace}
use Rattle.desk_locks.specs.Homes.{place_of_taken}
use Rattle.desk_locks.proofs.held.Held.give_back.Given as goal

-- what is still held is in its place
abbrev pub invariant-loop-lock : goal.invariant-loop-lock
invariant-loop-lock l = AllInPlace (map place_of_taken l.taken.items) l.desks.items l.seats.items

abbrev pub decreases-loop-lock : goal.decreases-loop-lock
decreases-loop-lock l = vec_len l.taken
