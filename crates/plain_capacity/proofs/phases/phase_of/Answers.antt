use Rattle.std.proofs.Common.{◌∙◌, ap, arith}
use Rattle.std.proofs.lemmas.List.{take_all}
use Rattle.market_model.specs.Room.{phase_of}
use Rattle.plain_capacity.proofs.Near.{phase-gates}
use Rattle.plain_capacity.proofs.phases.phase_of.Goals as goal

pub returns : goal.returns
returns c =
    c.loop-event.invariant
    ∙ ap (λ events. phase_of events c.args.hour) (take_all c.loop-event.event-index c.gates-gates.result.now (omega arith))
    ∙ phase-gates c.args.hour c.args.events.now c.gates-gates.result.now c.gates-gates.ensures
