use Rattle.std.proofs.Common.{◌∙◌, ap, map, sym}
use Rattle.trader_pass.specs.Passes.{pass_of_seat}
use Rattle.venue_core.proofs.Left.{all-gone}
use Rattle.venue_core.proofs.passes.seats_of.Goals as goal

-- at the end the seat of each
pub returns : goal.returns
returns c =
    let rest = c.loop-pass.pass-iterator.rest in
    ap (map pass_of_seat) c.from.ensures
    ∙ c.loop-pass.invariant.given
    ∙ all-gone c.loop-pass.yielded rest.items c.args.passes c.loop-pass.invariant.parts (sym rest.ok.0 ∙ c.in-None.ensures.steps.0)
