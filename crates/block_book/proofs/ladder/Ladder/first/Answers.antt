use Rattle.std.proofs.Common.{◌∙◌, ap}
use Rattle.order_pool.specs.Lines.{first_in, line_at}
use Rattle.block_book.proofs.Ladders.{first-met}
use Rattle.block_book.proofs.ladder.Ladder.first.Goals as goal

pub returns : goal.returns
returns c =
    c.find_from.ensures ∙ first-met c.args.blocks.now c.args.self.now c.requires.sound c.args.key c.first.result
    (c.first.ensures ∙ ap (λ r. first_in (line_at c.args.self.now.rings r)) c.ring.ensures) c.requires.keyed
