use Rattle.laws_of_maximum.proofs.Entries.{journals_certified}
use Rattle.laws_of_maximum.proofs.unfilled.journals_refuse_as_certified.Goals as goal

pub returns : goal.returns
returns c = journals_certified
