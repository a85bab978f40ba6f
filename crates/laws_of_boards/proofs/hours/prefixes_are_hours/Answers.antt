use Rattle.laws_of_boards.proofs.Stepping.{prefixes}
use Rattle.laws_of_boards.proofs.hours.prefixes_are_hours.Goals as goal

pub returns : goal.returns
returns c = prefixes
