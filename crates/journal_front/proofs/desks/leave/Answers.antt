use Rattle.std.proofs.Common.{◌∙◌, ap}
use Rattle.journal_front.specs.Seats.{hours_of}
use Rattle.journal_front.proofs.Lists.{hours-set}
use Rattle.journal_front.proofs.desks.leave.Goals as goal

pub returns-clause-hours : goal.returns-clause-hours
returns-clause-hours g c =
    let seats = g.H.HourSeats.seats c.args.hours.now in
    ap hours_of (g.met.H.HourSeats.seats_with c.args.hours.now c.args.i c.leave.new.self)
    ∙ hours-set seats c.args.i c.seat_mut.result.now c.leave.new.self c.seat_mut.ensures.value c.leave.ensures.place.0

pub returns-clause-others : goal.returns-clause-others
returns-clause-others g c = (c.leave.new.self, g.met.H.HourSeats.seats_with c.args.hours.now c.args.i c.leave.new.self)
