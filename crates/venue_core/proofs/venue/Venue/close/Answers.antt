use Rattle.std.proofs.Common.{◌∙◌, List, ap, arith, length, subst, sym}
use Rattle.market_model.specs.declared.entry.Entry.{Entry}
use Rattle.market_model.specs.declared.who.Who.TheVariants as who
use Rattle.market_model.specs.Concerned.{IsCurrent}
use Rattle.journal_front.specs.Fronts.{FrontState, IsPassOf}
use Rattle.venue_core.proofs.Closing.{all-end, passes-many, seats-of-front}
use Rattle.venue_core.proofs.venue.Venue.close.Goals as goal

pub seats_of-requires-clause-room : goal.seats_of-requires-clause-room
seats_of-requires-clause-room g c =
    let many = passes-many c.args.self c.args.passes c.requires in
    let same = ap (λ (front : FrontState). length front.setup.callers) (c.self.invariant.same_front ∙ c.self.view_is) in
    let fit = c.into_inner-seat.ensures.2 in
    omega (arith, many, same, fit)

pub close-requires-clause-passes : goal.close-requires-clause-passes
close-requires-clause-passes g c seat there =
    subst (λ (front : FrontState). IsPassOf front seat) (sym c.self.view_is)
    (seats-of-front c.args.self c.args.passes c.seats_of.result c.seats_of.ensures c.requires.own seat there)

-- the journal's seat has the journal's entries
pub returns-clause-passes : goal.returns-clause-passes
returns-clause-passes g c =
    let shared = c.into_inner-seat.ensures.0 in
    let entries = c.into_inner-seat.result.journal.entries in
    all-end c.args.self c.args.passes c.seats_of.result c.seats_of.ensures entries c.close.result
    (c.close.ensures.length ∙ ap (λ (es : List Entry). length es) shared.same_entries)
    (λ seat there. subst (λ (front : FrontState). IsCurrent front.setup (who.Caller seat.caller) seat.entries entries) c.self.view_is
    (subst (λ (es : List Entry). IsCurrent c.self.inside.front.setup (who.Caller seat.caller) seat.entries es) shared.same_entries (c.close.ensures.current seat there)))
    c.close.ensures.known
