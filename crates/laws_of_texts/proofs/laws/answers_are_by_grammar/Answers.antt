use Rattle.laws_of_texts.proofs.Texts.{answers-by-grammar}
use Rattle.laws_of_texts.proofs.laws.answers_are_by_grammar.Goals as goal

pub returns : goal.returns
returns c = answers-by-grammar
