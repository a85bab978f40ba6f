use Rattle.std.proofs.Common.{◌≡◌, ◌∙◌, ap, sym}
use Rattle.market_model.specs.declared.setup.Setup.{Setup}
use Rattle.market_model.specs.Rules.{early_refusal}
use Rattle.journal_front.specs.Fronts.{FrontState}
use Rattle.venue_core.specs.Planning.{hours_asked}
use Rattle.venue_core.proofs.Plans.{now-refused}
use Rattle.venue_core.proofs.venue.Venue.plan.Goals as goal

pub compare-requires : goal.compare-requires
compare-requires g c = record {
  hours = hours_asked c.args.self.now.setup c.args.caller c.args.command.now;
  places = c.requires.held.places;
  all_in_place = c.requires.held.all_in_place;
}

-- a command that breaks a rule by itself is refused after every journal
pub returns-in-Some-clause-planned : goal.returns-in-Some-clause-planned
returns-in-Some-clause-planned g c =
    let setup : c.self.inside.setup ≡ c.args.self.now.setup = c.self.invariant.same_setup ∙ ap (λ (front : FrontState). front.setup) c.self.view_is in
    now-refused c.args.self.now c.args.caller c.args.command.now c.args.held.now c.requires.held c.refuse.new.row c.refuse.ensures.rest c.in-Some.refusal c.refuse.result
    (ap (λ (s : Setup). early_refusal s c.args.caller c.args.command.now) (sym setup) ∙ sym c.refuse_early.ensures ∙ c.in-Some.is)
    c.refuse.ensures.reply c.refuse.ensures.desks
