use Rattle.std.proofs.Common.{◌∙◌, ap, inl, inr, sym}
use Rattle.market_model.specs.Refusals.{closed_hour}
use Rattle.plain_refusals.proofs.closing.closed_hour.Goals as goal

pub returns-in-Cancel : goal.returns-in-Cancel
returns-in-Cancel c = elim c.in-Cancel.is [
  | inl is ↦ c.if_closed-in-Cancel.ensures ∙ ap (closed_hour c.args.events.now) (sym is)
  | inr is ↦ c.if_closed-in-Cancel.ensures ∙ ap (closed_hour c.args.events.now) (sym is.1)
]
