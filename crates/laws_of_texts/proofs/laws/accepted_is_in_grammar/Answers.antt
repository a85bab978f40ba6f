use Rattle.laws_of_texts.proofs.Texts.{accepted-in-grammar}
use Rattle.laws_of_texts.proofs.laws.accepted_is_in_grammar.Goals as goal

pub returns : goal.returns
returns c = accepted-in-grammar
