use Rattle.laws_of_maximum.proofs.Entered.{journals_most}
use Rattle.laws_of_maximum.proofs.journals.journals_obtain_the_most.Goals as goal

pub returns : goal.returns
returns c = journals_most
