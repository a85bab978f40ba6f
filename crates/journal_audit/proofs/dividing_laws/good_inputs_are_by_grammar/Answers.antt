use Rattle.journal_audit.proofs.Answering.{good-by-grammar}
use Rattle.journal_audit.proofs.dividing_laws.good_inputs_are_by_grammar.Goals as goal

pub returns : goal.returns
returns c = good-by-grammar
