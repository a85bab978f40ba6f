use Rattle.laws_of_hours.proofs.NextEvents.{first_of_many}
use Rattle.laws_of_hours.proofs.next.first_of_many_are_hours.Goals as goal

pub returns : goal.returns
returns c = first_of_many
