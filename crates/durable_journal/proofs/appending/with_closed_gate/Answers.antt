use Rattle.std.proofs.Common.{rules}
use Rattle.durable_journal.specs.Stored.{number_bytes}
use Rattle.durable_journal.proofs.appending.with_closed_gate.Goals as goal

pub returns : goal.returns
unfolding number_bytes
returns c = search rules
