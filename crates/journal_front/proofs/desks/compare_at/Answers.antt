use Rattle.std.proofs.Common.{◌∙◌, ap, set}
use Rattle.journal_front.proofs.Lists.{put-back}
use Rattle.journal_front.proofs.desks.compare_at.Goals as goal

-- the seat comes back as it was
pub returns-clause-seats : goal.returns-clause-seats
returns-clause-seats g c =
    let seats = g.H.HourSeats.seats c.args.hours.now in
    g.met.H.HourSeats.seats_with c.args.hours.now c.args.i c.compare_seat.new.seat
    ∙ ap (set seats c.args.i) c.compare_seat.ensures.seat
    ∙ put-back seats c.args.i c.seat_mut.result.now c.seat_mut.ensures.value
