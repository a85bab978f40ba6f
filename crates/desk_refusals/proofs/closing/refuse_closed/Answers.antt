use Rattle.std.proofs.Common.{◌∙◌, sym}
use Rattle.desk_refusals.proofs.Named.{closed-other}
use Rattle.desk_refusals.proofs.closing.refuse_closed.Goals as goal

pub returns-in_default : goal.returns-in_default
returns-in_default c =
    c.refuse_if_closed.ensures
    ∙ sym (closed-other c.args.hour.now.board.events c.args.hour.now.board.hour c.args.command.now c.in_default.not-Gate c.in_default.not-View c.requires.concerns)
