use Rattle.laws_of_boards.proofs.Runs.{takings}
use Rattle.laws_of_boards.proofs.boards.board_takings_are_runs.Goals as goal

pub returns : goal.returns
returns c = takings
