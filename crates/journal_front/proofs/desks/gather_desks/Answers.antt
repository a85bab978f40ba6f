use Rattle.std.proofs.Common.{◌∙◌, ◌+◌, ap, arith, drop}
use Rattle.journal_front.proofs.Lists.{IsIn-get, drop-same, get-same, get-within, joined-next, one-view, seat-follows}
use Rattle.journal_front.specs.Seats.{standing_of_desk}
use Rattle.journal_front.specs.Views.{seat_view}
use Rattle.journal_front.proofs.desks.gather_desks.Goals as goal

pub leave-badge-requires : goal.leave-badge-requires
leave-badge-requires g c =
    let old = g.H.HourSeats.seats c.args.hours.now in
    let found = get-within old c.loop-i.i (omega (arith, c.len-i-end.ensures)) in
    (found.0, get-same (g.H.HourSeats.seats c.loop-i.hours) old c.loop-i.i c.loop-i.invariant.left ∙ found.1, (c.requires.desks found.0 (IsIn-get old c.loop-i.i found.0 found.1)).1)

pub gather-requires-clause-front : goal.gather-requires-clause-front
gather-requires-clause-front g c =
    let old = g.H.HourSeats.seats c.args.hours.now in
    let found = get-within old c.loop-i.i (omega (arith, c.len-i-end.ensures)) in
    let at = get-same (g.H.HourSeats.seats c.loop-i.hours) old c.loop-i.i c.loop-i.invariant.left ∙ found.1 in
    (c.leave-badge.ensures.badge found.0 at).0 ∙ (c.requires.desks found.0 (IsIn-get old c.loop-i.i found.0 found.1)).0

pub gather-requires-clause-badge : goal.gather-requires-clause-badge
gather-requires-clause-badge g c =
    let old = g.H.HourSeats.seats c.args.hours.now in
    let found = get-within old c.loop-i.i (omega (arith, c.len-i-end.ensures)) in
    let at = get-same (g.H.HourSeats.seats c.loop-i.hours) old c.loop-i.i c.loop-i.invariant.left ∙ found.1 in
    one-view c.leave-badge.result.views (seat_view found.0.setup (standing_of_desk found.0)) (c.leave-badge.ensures.badge found.0 at).1 (seat-follows found.0.setup (standing_of_desk found.0))

pub loop-i-preserved : goal.loop-i-preserved
loop-i-preserved g c =
    let old = g.H.HourSeats.seats c.args.hours.now in
    let seats = g.H.HourSeats.seats c.loop-i.hours in
    let view = c.args.lead.now.me.0 in
    let found = get-within old c.loop-i.i (omega (arith, c.len-i-end.ensures)) in
    let at = get-same seats old c.loop-i.i c.loop-i.invariant.left ∙ found.1 in
    let away = c.leave-badge.ensures.others in record {
      place = c.gather.ensures.place ∙ c.loop-i.invariant.place;
      lead =
          joined-next view c.loop-i.i c.loop-i.lead.me c.gather.new.lead.me c.leave-badge.result.views old found.0 c.loop-i.invariant.lead found.1
          (c.leave-badge.ensures.badge found.0 at).1 c.gather.ensures.lead;
      left = ap (drop (c.loop-i.i + 1)) away.1 ∙ drop-same seats old c.loop-i.i away.0 found.0 c.loop-i.invariant.left found.1;
      hours = c.leave-badge.ensures.hours ∙ c.loop-i.invariant.hours;
      rest = c.leave-badge.ensures.rest ∙ c.loop-i.invariant.rest;
    }
