use Rattle.std.proofs.Common.{◌≡◌, ◌∙◌, ap, arith, set, sym}
use Rattle.journal_front.specs.Fronts.{FrontState}
use Rattle.journal_front.specs.Seats.{desk_state, hours_of}
use Rattle.journal_front.proofs.Lists.{IsIn-get, back-hours, back-next, back-place, dealt-next, left-next, seat-within}
use Rattle.journal_front.proofs.desks.deal_desks.Goals as goal

pub come_back-requires : goal.come_back-requires
come_back-requires g c =
    let old = g.H.HourSeats.seats c.args.hours.now in
    let view = c.args.lead.now.me.0 in
    let i = c.loop-i.i in
    let views = c.deal-badge.result.views in
    let found = seat-within old (g.H.HourSeats.seats c.loop-i.hours) i c.loop-i.invariant.hours (omega (arith, c.len-i-end.ensures)) in
    let dealt = dealt-next view i c.loop-i.lead.me c.deal-badge.new.lead.me views (hours_of old) found.0.hour c.loop-i.invariant.lead found.2 c.deal-badge.ensures.dealt in
    (found.0, found.1, back-place view.setup view.entries found.0.hour views dealt (c.requires.hours found.0.hour (IsIn-get (hours_of old) i found.0.hour found.2)) c.requires.short)

pub loop-i-preserved : goal.loop-i-preserved
loop-i-preserved g c =
    let old = g.H.HourSeats.seats c.args.hours.now in
    let seats = g.H.HourSeats.seats c.loop-i.hours in
    let lead = c.args.lead.now in
    let view = lead.me.0 in
    let i = c.loop-i.i in
    let badge = c.deal-badge.result in
    let found = seat-within old seats i c.loop-i.invariant.hours (omega (arith, c.len-i-end.ensures)) in
    let dealt = dealt-next view i c.loop-i.lead.me c.deal-badge.new.lead.me badge.views (hours_of old) found.0.hour c.loop-i.invariant.lead found.2 c.deal-badge.ensures.dealt in
    let front : FrontState = record { id = lead.table_id; setup = view.setup } in
    let after = g.H.HourSeats.seats c.come_back.new.hours in
    let same_front : badge.table_id ≡ lead.table_id = c.deal-badge.ensures.front ∙ c.loop-i.invariant.place ∙ sym c.requires.place in
    let back = c.come_back.ensures.seats found.0 found.1 ∙ ap (λ id. set seats i (desk_state id found.0.hour badge.views)) same_front in record {
      place = c.deal-badge.ensures.place ∙ c.loop-i.invariant.place;
      lead = left-next view i c.loop-i.lead.me c.deal-badge.new.lead.me badge.views (hours_of old) found.0.hour c.loop-i.invariant.lead found.2 c.deal-badge.ensures.lead;
      done = back-next front view.entries seats after (hours_of old) i found.0.hour badge.views
          found.3 c.loop-i.invariant.done found.2 dealt back;
      hours = back-hours front view.entries seats after i found.0 badge.views found.1 dealt back ∙ c.loop-i.invariant.hours;
      rest = c.come_back.ensures.rest ∙ c.loop-i.invariant.rest;
    }
