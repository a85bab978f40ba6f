use Rattle.std.proofs.Common.{◌∙◌, ap, sym}
use Rattle.market_model.specs.StateRules.{capacity_refusal}
use Rattle.plain_capacity.proofs.RoomLemmas.{said_again}
use Rattle.plain_refusals.proofs.Capacities.{offer-is, request-is}
use Rattle.plain_refusals.proofs.capacity.refuse_by_capacity.Goals as goal

pub returns-in-Some : goal.returns-in-Some
returns-in-Some c = said_again c.first_refusal.result _ _
    (λ made is.
    is
    ∙ offer-is c.args.grid.now c.args.events.now c.in-Offer.from c.in-Offer.to c.in-Offer.first c.in-Offer.last c.in-Offer.lots c.in-Some.offer (sym c.asked_between.ensures.asked ∙ c.in-Some.is)
    ∙ ap (capacity_refusal c.args.grid.now c.args.events.now) (sym c.in-Offer.is))
    c.first_refusal.ensures

pub returns-in-Some-asked_between : goal.returns-in-Some-asked_between
returns-in-Some-asked_between c = said_again c.first_refusal-in-Some-asked_between.result _ _
    (λ made is.
    is
    ∙ request-is c.args.grid.now c.args.events.now c.in-Request.from c.in-Request.to c.in-Request.first c.in-Request.last c.in-Request.lots c.in-Some-asked_between.request
    (sym c.asked_between-in-Request.ensures.asked ∙ c.in-Some-asked_between.is)
    ∙ ap (capacity_refusal c.args.grid.now c.args.events.now) (sym c.in-Request.is))
    c.first_refusal-in-Some-asked_between.ensures
