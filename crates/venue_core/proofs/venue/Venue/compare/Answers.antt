use Rattle.std.proofs.Common.{◌∙◌, sym, subst}
use Rattle.journal_front.specs.Fronts.{FrontState, IsDeskOf}
use Rattle.venue_core.proofs.InPlace.{placed-alone, placed-own}
use Rattle.venue_core.proofs.venue.Venue.compare.Goals as goal

pub compare-requires-clause-seats : goal.compare-requires-clause-seats
compare-requires-clause-seats g c seat there =
    subst (λ (front : FrontState). IsDeskOf front seat) (sym c.self.view_is) (placed-own c.args.self.now c.args.held.now c.requires seat there)

-- a desk alone stands after the journal in its seat
pub returns-then-len-eq1-clause-journal : goal.returns-then-len-eq1-clause-journal
returns-then-len-eq1-clause-journal g c = placed-alone c.args.self.now c.args.held.now c.requires (sym c.len.ensures ∙ c.if-len-eq1.true)
