use Rattle.block_book.proofs.Ladders.{leave-sound}
use Rattle.block_book.proofs.ladder.Ladder.leave.Goals as goal

pub returns-clause-sound : goal.returns-clause-sound
returns-clause-sound c = λ places sound some. leave-sound places c.args.self.now sound c.args.place some c.remove.new.self c.remove.ensures.removed c.remove.ensures.sound
