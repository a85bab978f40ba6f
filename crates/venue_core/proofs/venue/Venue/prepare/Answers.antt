use Rattle.venue_core.proofs.Plans.{undone}
use Rattle.venue_core.proofs.venue.Venue.prepare.Goals as goal

-- what was planned is dropped
pub returns-in-Err-clause-failed : goal.returns-in-Err-clause-failed
returns-in-Err-clause-failed g c =
    undone c.args.self.now c.args.caller c.args.command c.in_ok-reply.reply c.plan.new.held c.undo_all.new.row c.in_ok-reply.ensures.planned
    c.undo_all.ensures.desks c.undo_all.ensures.rest
