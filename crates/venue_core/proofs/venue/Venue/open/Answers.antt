use Rattle.venue_core.proofs.Closing.{opened-for}
use Rattle.venue_core.proofs.venue.Venue.open.Goals as goal

pub returns-clause-opened : goal.returns-clause-opened
returns-clause-opened c =
    opened-for c.args.setup c.in_ok-front.front c.in_ok-front.seat c.in_ok-front.desks c.in_ok-front.seats c.in_ok-passes.passes c.in_ok-front.ensures c.in_ok-passes.ensures
