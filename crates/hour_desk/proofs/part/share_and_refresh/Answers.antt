use Rattle.std.proofs.Common.{◌∙◌}
use Rattle.hour_desk.specs.Shared.{shared_events}
use Rattle.hour_desk.proofs.Quiet.{swept-quiet}
use Rattle.hour_desk.proofs.part.share_and_refresh.Goals as goal

pub returns-clause-quiet : goal.returns-clause-quiet
returns-clause-quiet c =
    swept-quiet c.args.hour.now c.refresh.new.hour (shared_events c.args.hour.now.settled c.args.work.now)
    (c.in_ok-refresh.ensures.kept ∙ c.in_ok-events.ensures.kept ∙ c.in_ok-share.ensures.planned) c.in_ok-refresh.ensures.board
