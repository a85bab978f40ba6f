use Rattle.std.proofs.Common.{◌≡◌, ◌∙◌, ap, arith, length, subst}
use Rattle.market_model.specs.declared.setup.Setup.{Setup}
use Rattle.market_model.specs.HourSet.{IsSetOf}
use Rattle.market_model.specs.Rules.{touched_hours}
use Rattle.desk_locks.specs.Places.{row_of}
use Rattle.journal_front.specs.Fronts.{FrontState}
use Rattle.venue_core.proofs.InPlace.{held-for}
use Rattle.venue_core.proofs.Journals.{mine-few}
use Rattle.venue_core.proofs.venue.Venue.submit.Goals as goal

-- what is held are the desks of the hours that the command touches
pub prepare-requires-clause-held : goal.prepare-requires-clause-held
prepare-requires-clause-held g c =
    let caller = c.caller-caller.result in
    let hours = c.touches-hours.result in
    let setup : c.self.inside.setup ≡ c.args.self.now.setup = c.self.invariant.same_setup ∙ ap (λ (front : FrontState). front.setup) c.self.view_is in
    held-for c.args.self.now caller c.args.command hours c.self.inside.row c.in_ok-held.held (c.self.invariant.desks ∙ ap row_of c.self.view_is)
    (subst (λ (s : Setup). IsSetOf (touched_hours s caller c.args.command) hours) setup c.touches-hours.ensures) c.in_ok-held.ensures

-- a caller has no more entries than its pass has seen
pub overflow_add-made : goal.overflow_add-made
overflow_add-made g c =
    let pass = c.args.pass.now in
    let made = c.made-made.ensures.made in
    let own = ap length c.made-made.ensures.own in
    let short = c.made-made.ensures.short in
    let few = mine-few pass.caller pass.seen in
    omega (arith, made, own, short, few)
