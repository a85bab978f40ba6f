use Rattle.block_book.proofs.Ladders.{behind-met, behind-stands}
use Rattle.block_book.proofs.ladder.Ladder.after.Goals as goal

pub find_from-requires-clause-from : goal.find_from-requires-clause-from
find_from-requires-clause-from c = behind-stands c.args.blocks.now c.args.self.now c.requires.sound c.args.place c.get.result.now c.get.ensures c.key_of-key.result c.key_of-key.ensures c.next.result c.next.ensures

pub returns : goal.returns
returns c =
    rw (c.find_from.ensures)
    (behind-met c.args.blocks.now c.args.self.now c.requires.sound c.args.place c.get.result.now c.get.ensures c.key_of-key.result c.key_of-key.ensures c.next.result c.next.ensures c.requires.keyed)
