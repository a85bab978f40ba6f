use Rattle.laws_of_texts.proofs.Texts.{first-bad-reported}
use Rattle.laws_of_texts.proofs.laws.first_bad_is_reported.Goals as goal

pub returns : goal.returns
returns c = first-bad-reported
