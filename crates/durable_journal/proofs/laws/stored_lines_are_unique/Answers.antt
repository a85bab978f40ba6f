use Rattle.durable_journal.proofs.Parsing.{stores_unique}
use Rattle.durable_journal.proofs.laws.stored_lines_are_unique.Goals as goal

pub returns : goal.returns
returns c = stores_unique
