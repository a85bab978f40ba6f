use Rattle.std.proofs.Common.{◌∙◌, sym, arith}
use Rattle.market_model.specs.Room.{is_closed_phase, phase_of}
use Rattle.plain_refusals.proofs.Hours.{not_passing, passing}
use Rattle.plain_refusals.proofs.closing.first_closed.Goals as goal

pub returns-then-is_closed : goal.returns-then-is_closed
returns-then-is_closed c =
    sym (passing (λ hour. is_closed_phase (phase_of c.args.events.now hour)) c.loop-hour.hour c.args.last (omega arith) (sym c.is_closed.ensures ∙ c.if-is_closed.true))
    ∙ c.loop-hour.invariant

pub loop-hour-preserved : goal.loop-hour-preserved
loop-hour-preserved c =
    sym (not_passing (λ hour. is_closed_phase (phase_of c.args.events.now hour)) c.loop-hour.hour c.args.last (omega arith) (sym c.is_closed.ensures ∙ c.if-is_closed.false))
    ∙ c.loop-hour.invariant
