use Rattle.std.proofs.Common.{◌∙◌, sym, arith}
use Rattle.plain_refusals.specs.Asked.{refusal_at}
use Rattle.market_model.specs.Asked.{is_asked}
use Rattle.plain_refusals.proofs.Quarters.{answered}
use Rattle.plain_refusals.proofs.capacity.refusal_in.Goals as goal

pub returns-in-Some : goal.returns-in-Some
returns-in-Some c =
    sym (answered (refusal_at c.args.rule c.args.capacity.now c.args.asked.now) (is_asked c.args.asked.now) c.args.hour c.loop-number.number c.in-Some.refusal (omega arith)
    (sym c.is_asked.ensures ∙ c.if-is_asked.true) (sym c.refusal_at.ensures ∙ c.in-Some.is))
    ∙ c.loop-number.invariant.rest
