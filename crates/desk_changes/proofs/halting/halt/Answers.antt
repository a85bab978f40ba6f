use Rattle.desk_changes.proofs.Planning.{halt-planned, on-ok}
use Rattle.desk_changes.proofs.halting.halt.Goals as goal

pub returns-clause-planned : goal.returns-clause-planned
returns-clause-planned c =
    on-ok c.halt.result _ _ (halt-planned c.args.hour.now c.halt.new.self c.args.border c.args.first c.args.last c.requires.unplanned c.requires.next c.requires.quiet) c.halt.ensures.halted
