use Rattle.std.proofs.Common.{◌≡◌, take}
use Rattle.zone_graph.specs.Route.{IsIn}
use Rattle.market_model.specs.declared.who.Who.TheVariants as who
use Rattle.market_model.specs.Concerned.{IsCurrent}
use Rattle.journal_front.specs.Fronts.{DeskSeatState}
use Rattle.journal_front.proofs.desks.compare_desks.Given as goal

abbrev pub invariant-loop-i : goal.invariant-loop-i
invariant-loop-i g l =
    let view = l.fn.lead.me.0 in
    let old = g.H.HourSeats.seats l.fn.hours in record {
      place : l.lead.table_id ≡ l.word.table_id;
      lead : l.lead.me ≡ l.fn.lead.me;
      same : g.H.HourSeats.seats l.hours ≡ old;
      rest : g.H.HourSeats.rest l.hours ≡ g.H.HourSeats.rest l.fn.hours;
      current : (seat : DeskSeatState) → IsIn seat (take l.i old) → IsCurrent view.setup (who.Hour seat.hour) seat.entries view.entries;
    }
