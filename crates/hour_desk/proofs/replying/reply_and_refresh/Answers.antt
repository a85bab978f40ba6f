use Rattle.std.proofs.Common.{◌∙◌}
use Rattle.hour_desk.proofs.Quiet.{reply-quiet}
use Rattle.hour_desk.proofs.replying.reply_and_refresh.Goals as goal

pub returns-clause-quiet : goal.returns-clause-quiet
returns-clause-quiet c =
    reply-quiet c.args.setup.now c.args.hour.now c.args.caller c.args.command.now c.refresh.new.hour c.requires.placed c.requires.early
    (c.in_ok-refresh.ensures.kept ∙ c.in_ok-reply.ensures.planned) c.in_ok-refresh.ensures.board
