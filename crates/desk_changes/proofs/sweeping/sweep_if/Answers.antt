use Rattle.desk_changes.proofs.BlockPlanning.{swept-still}
use Rattle.desk_changes.proofs.sweeping.sweep_if.Goals as goal

pub returns-then-not-opened-clause-swept : goal.returns-then-not-opened-clause-swept
returns-then-not-opened-clause-swept c = swept-still c.args.hour.now c.requires.free (c.requires.quiet c.if-not-opened.true)
