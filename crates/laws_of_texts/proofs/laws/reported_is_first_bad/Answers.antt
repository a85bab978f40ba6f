use Rattle.laws_of_texts.proofs.Texts.{reported-first-bad}
use Rattle.laws_of_texts.proofs.laws.reported_is_first_bad.Goals as goal

pub returns : goal.returns
returns c = reported-first-bad
