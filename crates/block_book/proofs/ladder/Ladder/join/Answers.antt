use Rattle.std.proofs.Common.{◌∙◌, ap}
use Rattle.block_book.specs.Inside.{key_ring}
use Rattle.block_book.proofs.Ladders.{join-absent, join-before, join-held, join-room, join-sorted, join-sound}
use Rattle.block_book.proofs.ladder.Ladder.join.Goals as goal

pub spot-before-requires-clause-held : goal.spot-before-requires-clause-held
spot-before-requires-clause-held c =
    join-held c.args.blocks.now c.args.self.now c.args.place c.requires.sound c.requires.keyed c.get.result.now c.get.ensures c.ring-ring.result (c.ring-ring.ensures ∙ ap key_ring c.key_of.ensures)

pub spot-before-requires-clause-sorted : goal.spot-before-requires-clause-sorted
spot-before-requires-clause-sorted c =
    join-sorted c.args.blocks.now c.args.self.now c.args.place c.requires.sound c.requires.keyed c.get.result.now c.get.ensures c.ring-ring.result (c.ring-ring.ensures ∙ ap key_ring c.key_of.ensures)

pub insert-requires-clause-before : goal.insert-requires-clause-before
insert-requires-clause-before c =
    join-before c.args.blocks.now c.args.self.now c.args.place c.requires.sound c.requires.keyed c.get.result.now c.get.ensures c.ring-ring.result (c.ring-ring.ensures ∙ ap key_ring c.key_of.ensures) c.spot-before.result c.spot-before.ensures

pub insert-requires-clause-absent : goal.insert-requires-clause-absent
insert-requires-clause-absent c =
    join-absent c.args.blocks.now c.args.self.now c.args.place c.requires.sound c.requires.keyed c.get.result.now c.get.ensures c.ring-ring.result (c.ring-ring.ensures ∙ ap key_ring c.key_of.ensures)

pub insert-requires-clause-room : goal.insert-requires-clause-room
insert-requires-clause-room c =
    join-room c.args.blocks.now c.args.self.now c.args.place c.requires.sound c.requires.keyed c.get.result.now c.get.ensures c.ring-ring.result (c.ring-ring.ensures ∙ ap key_ring c.key_of.ensures)

pub returns-clause-sound : goal.returns-clause-sound
returns-clause-sound c =
    join-sound c.args.blocks.now c.args.self.now c.args.place c.requires.sound c.requires.keyed c.get.result.now c.get.ensures c.ring-ring.result (c.ring-ring.ensures ∙ ap key_ring c.key_of.ensures) c.spot-before.result c.spot-before.ensures
    c.insert.new.self c.insert.ensures.inserted c.insert.ensures.sound
