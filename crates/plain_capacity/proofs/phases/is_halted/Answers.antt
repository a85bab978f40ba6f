use Rattle.std.proofs.Common.{◌∙◌, ap, arith}
use Rattle.std.proofs.lemmas.List.{take_all}
use Rattle.market_model.specs.Room.{is_halted}
use Rattle.plain_capacity.proofs.Near.{halted-near}
use Rattle.plain_capacity.proofs.phases.is_halted.Goals as goal

pub returns : goal.returns
returns c =
    c.loop-event.invariant
    ∙ ap (λ events. is_halted events c.args.border c.args.hour) (take_all c.loop-event.event-index c.near-near.result.now (omega arith))
    ∙ halted-near c.args.hour c.args.events.now c.near-near.result.now c.near-near.ensures c.args.border
