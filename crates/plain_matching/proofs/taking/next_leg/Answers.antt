use Rattle.std.proofs.Common.{◌∙◌, sym}
use Rattle.plain_matching.proofs.Here.{none_left}
use Rattle.plain_matching.proofs.taking.next_leg.Goals as goal

pub returns-then-branch-eq0-clause-leg : goal.returns-then-branch-eq0-clause-leg
returns-then-branch-eq0-clause-leg c =
    none_left c.args.grid.now c.args.events.now c.args.name (sym c.in_ok-left_over.ensures.left ∙ c.if-branch-eq0.true)
