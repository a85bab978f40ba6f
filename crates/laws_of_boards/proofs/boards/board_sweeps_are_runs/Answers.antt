use Rattle.laws_of_boards.proofs.Runs.{sweeps}
use Rattle.laws_of_boards.proofs.boards.board_sweeps_are_runs.Goals as goal

pub returns : goal.returns
returns c = sweeps
