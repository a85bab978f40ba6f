use Rattle.std.proofs.Common.{◌∙◌, ap, subst, sym}
use Rattle.trader_pass.specs.Passes.{IsOf, PassState}
use Rattle.tests_of_venues.proofs.Passes.{all-set, own-pass}
use Rattle.tests_of_venues.proofs.party.front.Goals as goal

pub front-requires : goal.front-requires
front-requires c = own-pass c.args.venue.now c.args.passes.now c.args.caller c.index-passes-caller.result c.requires.known c.requires.all

pub returns : goal.returns
returns c =
    let venue = c.args.venue.now in
    let old = c.index-passes-caller.result in
    let own : IsOf venue old =
    subst (IsOf venue) (sym c.index-passes-caller.is) (own-pass venue c.args.passes.now c.args.caller old c.requires.known c.requires.all) in
    let told = c.front.ensures.pass ∙ ap (λ (p : PassState). record { front = p.front; setup = p.setup; caller = p.caller; seen = p.seen; mine = p.mine; known = c.front.result }) (sym c.index-passes-caller.is) in
    all-set venue c.args.passes.now c.args.caller old c.front.new.pass c.index-passes-caller.is c.requires.all
    (record { same_front = ap (λ (p : PassState). p.front) told ∙ own.same_front; same_setup = ap (λ (p : PassState). p.setup) told ∙ own.same_setup })
    (ap (λ (p : PassState). p.caller) told)
