use Rattle.std.proofs.Common.{◌≡◌, []}
use Rattle.kept_lock.proofs.lock.KeptLock.take.Given as goal

abbrev pub invariant-loop : goal.invariant-loop
invariant-loop g l = record { table : l.seat.table_id ≡ l.self.table; seat : l.seat.me ≡ (l.self.key, []) }

abbrev pub invariant-loop-2 : goal.invariant-loop-2
invariant-loop-2 g l = record { table : l.seat.table_id ≡ l.self.table; seat : l.seat.me ≡ (l.self.key, []) }
