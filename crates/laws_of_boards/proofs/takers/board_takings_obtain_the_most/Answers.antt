use Rattle.laws_of_boards.proofs.Entries.{obtains}
use Rattle.laws_of_boards.proofs.takers.board_takings_obtain_the_most.Goals as goal

pub returns : goal.returns
returns c = obtains
