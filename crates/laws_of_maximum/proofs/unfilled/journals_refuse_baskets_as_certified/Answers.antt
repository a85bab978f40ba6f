use Rattle.laws_of_maximum.proofs.Entries.{journals_certified_baskets}
use Rattle.laws_of_maximum.proofs.unfilled.journals_refuse_baskets_as_certified.Goals as goal

pub returns : goal.returns
returns c = journals_certified_baskets
