use Rattle.std.proofs.Common.{◌≡◌, ◌<◌, ◌++◌, length}
use Rattle.durable_journal.specs.Stored.{AreLines, blocks}
use Rattle.durable_journal.proofs.opening.read_lines.Given as goal

abbrev pub invariant-loop-rest : goal.invariant-loop-rest
invariant-loop-rest l = record {
  each : AreLines l.lines;
  whole : l.image ≡ blocks l.lines ++ l.rest;
  some : 0 < length l.rest;
}

abbrev pub decreases-loop-rest : goal.decreases-loop-rest
decreases-loop-rest l = length l.rest
