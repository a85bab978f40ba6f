use Rattle.desk_changes.proofs.BlockPlanning.{rest-planned}
use Rattle.desk_changes.proofs.entering.enter_at_rest.Goals as goal

pub returns-clause-planned : goal.returns-clause-planned
returns-clause-planned c =
    rest-planned c.args.hour.now c.enter_block.new.self c.args.caller c.args.order.now c.requires.unplanned c.requires.next c.requires.quiet c.in_ok-enter_block.ensures.entered
