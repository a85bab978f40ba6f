use Rattle.laws_of_books.proofs.BlocksBesideLegs.{others_stay}
use Rattle.laws_of_books.proofs.block_legs.legs_leave_the_other_blocks.Goals as goal

pub returns : goal.returns
returns c = others_stay
