use Rattle.std.proofs.Common.{Some, length}
use Rattle.durable_journal.specs.Resting.{IsAtRest}
use Rattle.durable_journal.proofs.tests.acknowledged.Given as goal

abbrev pub invariant-loop-count : goal.invariant-loop-count
invariant-loop-count l = IsAtRest (length l.disk.now.bytes) (Some l.disk.now) l.at
