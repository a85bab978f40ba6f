use Rattle.std.proofs.Common.{◌≡◌, length}
use Rattle.std.specs.Option.{ForSome}
use Rattle.order_pool.specs.Lines.{line_at, StandsIn}
use Rattle.block_book.specs.Inside.{first_from, key_ring, places_from}
use Rattle.block_book.proofs.ladder.Ladder.find_from.Given as goal

abbrev pub invariant-loop-at : goal.invariant-loop-at
invariant-loop-at l = ForSome l.at (StandsIn l.self.rings (key_ring l.key)) × (first_from l.self l.blocks l.key l.fn.from ≡ first_from l.self l.blocks l.key l.at)

abbrev pub decreases-loop-at : goal.decreases-loop-at
decreases-loop-at l = length (places_from l.at (line_at l.self.rings (key_ring l.key)))
