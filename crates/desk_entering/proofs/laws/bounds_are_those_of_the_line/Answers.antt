use Rattle.desk_entering.proofs.Records.{bounds-are}
use Rattle.desk_entering.proofs.laws.bounds_are_those_of_the_line.Goals as goal

pub returns : goal.returns
returns c = bounds-are
