use Rattle.std.proofs.Common.{◌≡◌, ◌++◌, [], drop, map, take}
use Rattle.journal_front.specs.Seats.{hours_of, standing_of_desk}
use Rattle.journal_front.specs.Views.{with_standings}
use Rattle.journal_front.proofs.desks.gather_desks.Given as goal

abbrev pub invariant-loop-i : goal.invariant-loop-i
invariant-loop-i g l = record {
  place : l.lead.table_id ≡ l.word.table_id;
  lead : l.lead.me ≡ (with_standings l.fn.lead.me.0 (l.fn.lead.me.0.standings ++ map standing_of_desk (take l.i (g.H.HourSeats.seats l.fn.hours))), []);
  left : drop l.i (g.H.HourSeats.seats l.hours) ≡ drop l.i (g.H.HourSeats.seats l.fn.hours);
  hours : hours_of (g.H.HourSeats.seats l.hours) ≡ hours_of (g.H.HourSeats.seats l.fn.hours);
  rest : g.H.HourSeats.rest l.hours ≡ g.H.HourSeats.rest l.fn.hours;
}
