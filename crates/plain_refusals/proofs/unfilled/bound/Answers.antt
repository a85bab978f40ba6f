use Rattle.std.proofs.Common.{◌∙◌, ◌+◌, ap₂}
use Rattle.plain_refusals.proofs.Crosses.{inside-is}
use Rattle.plain_refusals.proofs.unfilled.bound.Goals as goal

pub returns : goal.returns
returns c =
    ap₂ (λ inside across. inside + across)
    (c.crossing_lots_inside-inside.ensures.lots
    ∙ inside-is c.args.events.now c.args.order.now c.args.zones.now c.as_slice.result.now (c.as_slice.ensures.value ∙ c.in_ok-line.ensures.line))
    c.in_ok-across.ensures.room
