use Rattle.laws_of_books.proofs.BlocksBesideLegs.{closed_gone}
use Rattle.laws_of_books.proofs.block_legs.closed_blocks_are_gone.Goals as goal

pub returns : goal.returns
returns c = closed_gone
