use Rattle.std.proofs.Common.{◌≡◌, [], drop, map, take}
use Rattle.journal_front.specs.Fronts.{desk_of}
use Rattle.journal_front.specs.Seats.{desk_standing, hours_of}
use Rattle.journal_front.specs.Views.{with_standings}
use Rattle.journal_front.proofs.desks.deal_desks.Given as goal

abbrev pub invariant-loop-i : goal.invariant-loop-i
invariant-loop-i g l =
    let view = l.fn.lead.me.0 in
    let hours = hours_of (g.H.HourSeats.seats l.fn.hours) in record {
      place : l.lead.table_id ≡ l.word.table_id;
      lead : l.lead.me ≡ (with_standings view (map (λ hour. desk_standing hour view.entries) (drop l.i hours)), []);
      done : take l.i (g.H.HourSeats.seats l.hours) ≡ map (desk_of (record { id = l.fn.lead.table_id; setup = view.setup }) view.entries) (take l.i hours);
      hours : hours_of (g.H.HourSeats.seats l.hours) ≡ hours;
      rest : g.H.HourSeats.rest l.hours ≡ g.H.HourSeats.rest l.fn.hours;
    }
