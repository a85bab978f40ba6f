use Rattle.laws_of_texts.proofs.Texts.{grammar-accepted}
use Rattle.laws_of_texts.proofs.laws.grammar_is_accepted.Goals as goal

pub returns : goal.returns
returns c = grammar-accepted
