use Rattle.journal_audit.proofs.Answering.{bad-by-grammar}
use Rattle.journal_audit.proofs.dividing_laws.bad_lines_are_by_grammar.Goals as goal

pub returns : goal.returns
returns c = bad-by-grammar
