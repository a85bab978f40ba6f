use Rattle.laws_of_hours.proofs.NextEvents.{first_part}
use Rattle.laws_of_hours.proofs.next.first_parts_are_hours.Goals as goal

pub returns : goal.returns
returns c = first_part
