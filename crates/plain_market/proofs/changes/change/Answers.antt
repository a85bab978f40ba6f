use Rattle.std.proofs.Common.{◌∙◌, ◌++◌, ap, sym}
use Rattle.plain_market.proofs.Happenings.{border-legal, happened, on-ok}
use Rattle.plain_market.proofs.changes.change.Goals as goal

pub then_sweeps-requires-clause-legal : goal.then_sweeps-requires-clause-legal
then_sweeps-requires-clause-legal c =
    border-legal c.args.grid.now c.args.setup.now c.args.events.now 0 c.args.command.now c.in-Some.happening c.requires.grid (sym c.in-Some.ensures) (c.requires.after 0)

pub returns-in-Some-clause-ok : goal.returns-in-Some-clause-ok
returns-in-Some-clause-ok c caller = on-ok c.then_sweeps.result c.then_sweeps.ensures.ok
    (λ is. is ∙ ap (λ done. c.args.events.now ++ done)
    (happened c.args.grid.now c.args.setup.now c.args.events.now caller c.args.command.now c.in-Some.happening c.requires.grid (sym c.in-Some.ensures)))
