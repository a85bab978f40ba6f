use Rattle.std.proofs.Common.{◌∙◌, map, sym, ap}
use Rattle.trader_pass.specs.Passes.{pass_of_seat}
use Rattle.venue_core.proofs.Left.{all-gone}
use Rattle.venue_core.proofs.passes.passes_of.Goals as goal

-- at the end there is a pass of each
pub returns : goal.returns
returns c =
    let rest = c.loop-seat.seat-iterator.rest in
    c.loop-seat.invariant.made
    ∙ ap (map pass_of_seat) (all-gone c.loop-seat.yielded rest.items c.args.seats c.loop-seat.invariant.parts (sym rest.ok.0 ∙ c.in-None.ensures.steps.0))
