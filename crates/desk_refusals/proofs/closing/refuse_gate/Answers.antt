use Rattle.std.proofs.Common.{◌∙◌}
use Rattle.desk_refusals.proofs.Named.{gate-is}
use Rattle.desk_refusals.proofs.closing.refuse_gate.Goals as goal

pub returns-in-Gate : goal.returns-in-Gate
returns-in-Gate c =
    c.refuse_unless_later.ensures
    ∙ gate-is c.args.hour.now.board.events c.args.hour.now.board.hour c.args.command.now _ _ c.phase.result c.in-Gate.is c.requires.concerns
    (c.phase.ensures ∙ c.flows.ensures.phase_same)
