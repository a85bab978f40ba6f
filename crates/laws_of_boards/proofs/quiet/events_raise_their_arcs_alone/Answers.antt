use Rattle.laws_of_boards.proofs.Rises.{rise-alone}
use Rattle.laws_of_boards.proofs.quiet.events_raise_their_arcs_alone.Goals as goal

pub returns : goal.returns
returns c = rise-alone
