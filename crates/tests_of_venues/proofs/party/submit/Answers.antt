use Rattle.std.proofs.Common.{◌∙◌, ap, get_or, sym}
use Rattle.trader_pass.specs.Passes.{PassState}
use Rattle.tests_of_venues.proofs.Passes.{all-set, own-pass, still-own}
use Rattle.tests_of_venues.proofs.party.submit.Goals as goal

pub submit-requires-after_bounds : goal.submit-requires-after_bounds
submit-requires-after_bounds g c κs within =
    own-pass c.args.venue.now c.args.passes.now c.args.caller c.index-passes-caller.result c.requires.known c.requires.all

pub returns : goal.returns
returns g c =
    let venue = c.args.venue.now in
    let found = c.index-passes-caller.result in
    let old : PassState = get_or c.args.passes.now c.args.caller found in
    let still = still-own venue c.args.command c.submit.result old c.submit.new.pass c.submit.ensures.submitted c.submit.ensures.unchanged
    (own-pass venue c.args.passes.now c.args.caller found c.requires.known c.requires.all) in
    all-set venue c.args.passes.now c.args.caller found c.submit.new.pass c.index-passes-caller.is c.requires.all still.0
    (still.1 ∙ ap (λ (p : PassState). p.caller) (sym c.index-passes-caller.is))
