use Rattle.block_book.proofs.Ladders.{none-ladder}
use Rattle.block_book.proofs.ladder.Ladder.new.Goals as goal

pub returns-clause-sound : goal.returns-clause-sound
returns-clause-sound c = none-ladder c.args.grain c.in-Ok.rings c.in-Ok.ensures.empty c.in-Ok.ensures.sound
