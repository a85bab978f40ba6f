use Rattle.std.proofs.Common.{◌∙◌, ap, arith, subst}
use Rattle.journal_front.specs.Seats.{view_in}
use Rattle.journal_front.specs.Steps.{Follows}
use Rattle.journal_front.proofs.Turns.{joining}
use Rattle.journal_front.proofs.places.gather.Goals as goal

pub join_seat-requires : goal.join_seat-requires
join_seat-requires c =
    let word = c.args.word.now in
    let lead = c.args.lead.now in
    let seat = c.into_seat.result in (
      c.requires.place,
      c.into_seat.ensures.0 ∙ c.requires.front,
      c.into_seat.ensures.3,
      omega (arith, c.requires.word),
      joining word.key lead.id lead.me.0 seat.id seat.me.0 c.requires.lead.leads (subst Follows (ap view_in c.into_seat.ensures.2) c.requires.badge.1),
    )
