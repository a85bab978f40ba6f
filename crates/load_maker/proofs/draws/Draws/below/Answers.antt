use Rattle.std.proofs.Common.{◌+◌, ◌*◌, ◌%◌, ◌^◌, ◌∙◌, ap, arith}
use Rattle.std.proofs.Math.Nat.{mod-add-mod}
use Rattle.load_maker.specs.Draws.{next_state, number_of}
use Rattle.load_maker.proofs.draws.Draws.below.Goals as goal

-- the product wraps, and then the sum
pub returns-clause-moved : goal.returns-clause-moved
unfolding next_state
returns-clause-moved c =
    mod-add-mod (c.self.inside.state * 6364136223846793005) (2 ^ 64) 1442695040888963407
    ∙ ap (λ state. (state * 6364136223846793005 + 1442695040888963407) % 2 ^ 64) c.self.view_is

pub returns-clause-number : goal.returns-clause-number
unfolding number_of
returns-clause-number c = grind (arith, c.from.ensures)
